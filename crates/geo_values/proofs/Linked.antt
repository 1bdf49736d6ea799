-- What the links say of keys and numbers, and that they outlast an item that is taken out.
use Rattle.std.proofs.Common.{◌≡◌, ◌≢◌, ℕ, ◌≤◌, Bool, true, false, nat_eq, cond, is_some, List, [], Option, Some, None, IsSome, refl, sym, ap, subst, ◌∙◌, arith}
use Rattle.std.proofs.lemmas.Bool.{eqb-true}
use Rattle.std.specs.Cmp.{nat_eq_equiv}
use Rattle.std.specs.Cmp.Lexicographic.{same_text, nat_list_eq_equiv}
use Rattle.std.specs.Option.{unwrap_or}
use Rattle.geo_records.specs.Keys.{same_key}
use Rattle.geo_slabs.specs.Storage.{held_in}
use Rattle.geo_lru.specs.Lists.{Lists, places, left}
use Rattle.geo_lru.proofs.Places.{without-absent}
use Rattle.geo_lru.proofs.Tallies.{none}
use Rattle.geo_values.specs.Links.{Links, IsLinked, bytes_of, key_of}
use Rattle.geo_values.specs.Steps.{CanGo, CanGoIfAny}
use Rattle.geo_values.specs.declared.parts.Item.{Item}
use Rattle.geo_values.proofs.Names.{MatchesAll}

pub same_keys : (a b : List ℕ) → same_key a b ≡ true → a ≡ b
same_keys a b h = same_text a b (sym h)

pub same_self : (a : List ℕ) → same_key a a ≡ true
same_self a = nat_list_eq_equiv.refl a

pub other_keys : (a b : List ℕ) → a ≢ b → same_key a b ≡ false
other_keys a b ne = by (same_key a b) refl
  where
    by : (t : Bool) → same_key a b ≡ t → t ≡ false
    by true t = absurd (ne (same_keys a b t))
    by false t = refl

-- whichever comes first
pub either_way : (a b : List ℕ) → same_key a b ≡ same_key b a
either_way a b = by (same_key a b) refl (same_key b a) refl
  where
    by : (s : Bool) → same_key a b ≡ s → (t : Bool) → same_key b a ≡ t → s ≡ t
    by true hs true ht = refl
    by false hs false ht = refl
    by true hs false ht = let yes : same_key b a ≡ true = subst (λ k. same_key b k ≡ true) (sym (same_keys a b hs)) (same_self b) in cc
    by false hs true ht = let yes : same_key a b ≡ true = subst (λ k. same_key a k ≡ true) (sym (same_keys b a ht)) (same_self a) in cc

pub other_numbers : (a b : ℕ) → a ≢ b → nat_eq a b ≡ false
other_numbers a b ne = by (nat_eq a b) refl
  where
    by : (t : Bool) → nat_eq a b ≡ t → t ≡ false
    by true t = absurd (ne (eqb-true a b t))
    by false t = refl

pub same_numbers : (a b : ℕ) → a ≡ b → nat_eq a b ≡ true
same_numbers a b e = subst (λ x. nat_eq a x ≡ true) e (nat_eq_equiv.refl a)

pub left-absent : (n : ℕ) (l : Lists) → places n l ≡ 0 → left n l ≡ l
left-absent n l h = rw (without-absent n l.hot (omega (arith, h)), without-absent n l.warm (omega (arith, h)), without-absent n l.cold (omega (arith, h))) refl

module _ {l : Links} (h : IsLinked l) where
  -- two items of one number are one
  pub same_number : (key other : List ℕ) (i j : Item) → l.item key ≡ Some i → l.item other ≡ Some j → i.number ≡ j.number → key ≡ other
  same_number key other i j hi hj e =
      let mine : l.key i.number ≡ Some key = h.there key i hi in
      let yours : l.key i.number ≡ Some other = ap l.key e ∙ h.there other j hj in
      cc

  -- a number that stands in a list is an item's
  pub listed : (m class : ℕ) → 1 ≤ places m (l.lists class) → (key : List ℕ) × (l.key m ≡ Some key)
  listed m class p = by (l.key m) refl
    where
      by : (o : Option (List ℕ)) → l.key m ≡ o → (key : List ℕ) × (l.key m ≡ Some key)
      by None e = absurd (omega (arith, p, h.only m class e))
      by (Some key) e = (key, e)

  pub once : (m class : ℕ) → places m (l.lists class) ≤ 1
  once m class = by (l.key m) refl
    where
      by : (o : Option (List ℕ)) → l.key m ≡ o → places m (l.lists class) ≤ 1
      by None e = omega (arith, h.only m class e)
      by (Some key) e =
          let b = h.back m key e in
          let at : places b.item.number (l.lists class) ≡ cond (nat_eq class b.item.class) 1 0 = h.placed key b.item b.is class in
          let here : places m (l.lists class) ≡ cond (nat_eq class b.item.class) 1 0 = subst (λ k. places k (l.lists class) ≡ cond (nat_eq class b.item.class) 1 0) b.numbered at in
          elim (nat_eq class b.item.class) as (λ (t : Bool). places m (l.lists class) ≡ cond t 1 0 → places m (l.lists class) ≤ 1) [ true ↦ λ e. omega (arith, e) | false ↦ λ e. omega (arith, e) ] here

  -- an item's number is that of its key and of no other
  pub matches : (key : List ℕ) (item : Item) → l.item key ≡ Some item → (class : ℕ) → MatchesAll (key_of l) item.number key (l.lists class)
  matches key item is class m p =
      let at = listed m class p in
      let b = h.back m at.0 at.1 in
      let name : key_of l m ≡ at.0 = ap (λ (o : Option (List ℕ)). unwrap_or o []) at.1 in
      ap (same_key key) name ∙ by at.0 b.item b.is b.numbered (same_key key at.0) refl (nat_eq item.number m) refl
    where
      by : (q : List ℕ) (i : Item) → l.item q ≡ Some i → i.number ≡ m → (s : Bool) → same_key key q ≡ s → (t : Bool) → nat_eq item.number m ≡ t → s ≡ t
      by q i iq im true hs true ht = refl
      by q i iq im false hs false ht = refl
      by q i iq im true hs false ht =
          let one : key ≡ q = same_keys key q hs in
          let both : Some item ≡ Some i = sym is ∙ ap l.item one ∙ iq in
          let items : item ≡ i = cc in
          let numbers : item.number ≡ m = ap (λ (x : Item). x.number) items ∙ im in
          let yes : nat_eq item.number m ≡ true = same_numbers item.number m numbers in
          cc
      by q i iq im false hs true ht =
          let numbers : item.number ≡ i.number = eqb-true item.number m ht ∙ sym im in
          let one : key ≡ q = same_number key q item i is iq numbers in
          let yes : same_key key q ≡ true = subst (λ k. same_key key k ≡ true) one (same_self key) in
          cc

  pub holds_some : (key : List ℕ) (item : Item) → l.item key ≡ Some item → IsSome (held_in l.storage item.chunk)
  holds_some key item is = ap is_some (h.sound key item is).holds

  pub can_go : (key : List ℕ) (item : Item) → l.item key ≡ Some item → CanGo l item
  can_go key item is = record { there = ap is_some (h.there key item is); held = holds_some key item is; class = (h.sound key item is).fits.0 }

  pub can_go_if_any : (key : List ℕ) → CanGoIfAny l (l.item key)
  can_go_if_any key = by (l.item key) refl
    where
      by : (o : Option Item) → l.item key ≡ o → CanGoIfAny l o
      by None e = tt
      by (Some item) e = can_go key item e

  -- what is held has an item
  pub held_some : (key : List ℕ) → is_some (bytes_of l.storage (l.item key)) ≡ is_some (l.item key)
  held_some key = by (l.item key) refl
    where
      by : (o : Option Item) → l.item key ≡ o → is_some (bytes_of l.storage o) ≡ is_some o
      by None e = refl
      by (Some item) e = ap is_some (h.sound key item e).holds

  pub no_item : (key : List ℕ) → bytes_of l.storage (l.item key) ≡ None → l.item key ≡ None
  no_item key none = by (l.item key) (sym (held_some key) ∙ ap is_some none)
    where
      by : (o : Option Item) → is_some o ≡ false → o ≡ None
      by None e = refl
      by (Some item) e = cc

  -- a key without an item is no number's
  pub misses : (key : List ℕ) → l.item key ≡ None → (m class : ℕ) → 1 ≤ places m (l.lists class) → same_key key (key_of l m) ≡ false
  misses key none m class p =
      let at = listed m class p in
      let b = h.back m at.0 at.1 in
      let name : key_of l m ≡ at.0 = ap (λ (o : Option (List ℕ)). unwrap_or o []) at.1 in
      ap (same_key key) name ∙ other_keys key at.0 (λ same. let both : None ≡ Some b.item = sym none ∙ ap l.item same ∙ b.is in cc)

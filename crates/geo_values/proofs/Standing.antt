-- Where keys stand in the lists.
use Rattle.std.proofs.Common.{◌≡◌, ℕ, ◌+◌, ◌*◌, ◌/◌, ◌≤◌, inl, inr, false, nat_eq, nat_lt, cond, is_some, List, [], ◌∷◌, length, Option, Some, None, refl, sym, ap, subst, ◌∙◌, arith, not, zero-add}
use Rattle.std.proofs.lemmas.List.{length-map}
use Rattle.std.proofs.lemmas.List.Sums.{sum_by-cons}
use Rattle.std.proofs.lemmas.Bool.{cases_eq, cases_order}
use Rattle.std.specs.Option.{option_map, option_map_or}
use Rattle.std.specs.Map.{keys_of}
use Rattle.lru.specs.LruCache.{last_entry}
use Rattle.geo_records.specs.Keys.{same_key}
use Rattle.geo_slabs.specs.Storage.{IsClassOf}
use Rattle.geo_lru.specs.Rules.{present_by, places_by, leaves_list, warm_leaves, last_active, hot_limit, warm_limit}
use Rattle.geo_lru.specs.Lists.{Lists, present, places}
use Rattle.geo_lru.specs.declared.access.Access.{Access}
use Rattle.geo_lru.proofs.Places.{present-cons}
use Rattle.geo_values.specs.Stock.{IsListed, IsNotInHot, IsHeldIn}
use Rattle.geo_values.specs.Links.{Links, IsLinked, bytes_of, key_of, named_list, named, stock_of}
use Rattle.geo_values.specs.Steps.{IsNotHot}
use Rattle.geo_values.specs.declared.parts.Item.{Item}
use Rattle.geo_values.proofs.Names.{Matches, Misses, MatchesAll, present-first, present-later, last-named, count-named}
use Rattle.geo_values.proofs.Linked.{matches, misses, other_numbers, same_numbers}
use Rattle.geo_values.proofs.Juggled.{last_active-named}

-- a length is of one class
pub one_class : (bytes a b : ℕ) → IsClassOf bytes a → IsClassOf bytes b → a ≡ b
one_class bytes a b p q = elim (cases_order a b) [
  | inl same ↦ same
  | inr (inl lt) ↦ absurd (omega (arith, p.1, q.2 a lt))
  | inr (inr gt) ↦ absurd (omega (arith, q.1, p.2 b gt))
]

module _ (name : ℕ → List ℕ) (key : List ℕ) where
  first_shown : (e : ℕ × Access) (es : List (ℕ × Access)) → present_by same_key key (named_list name (e ∷ es)) ≡ cond (same_key key (name e.0)) 1 0 + present_by same_key key (named_list name es)
  first_shown e es = sum_by-cons (λ x. cond (same_key key x) 1 0) (name e.0) (keys_of (named_list name es))

  -- a key stands as often as its number
  pub present-named : (n : ℕ) (es : List (ℕ × Access)) → Matches name n key es → present_by same_key key (named_list name es) ≡ present n es
  present-named n [] h = refl
  present-named n (e ∷ es) h =
      first_shown e es
      ∙ ap (λ b. cond b 1 0 + present_by same_key key (named_list name es)) (h e.0 (present-first e es))
      ∙ ap (λ m. cond (nat_eq n e.0) 1 0 + m) (present-named n es (λ m p. h m (present-later m e es p)))
      ∙ sym (present-cons n e.0 e.1 es)

  -- and one without a number nowhere
  pub present-misses : (es : List (ℕ × Access)) → Misses name key es → present_by same_key key (named_list name es) ≡ 0
  present-misses [] h = refl
  present-misses (e ∷ es) h =
      first_shown e es
      ∙ ap (λ b. cond b 1 0 + present_by same_key key (named_list name es)) (h e.0 (present-first e es))
      ∙ zero-add (present_by same_key key (named_list name es))
      ∙ present-misses es (λ m p. h m (present-later m e es p))

  pub places-named : (n : ℕ) (l : Lists) → MatchesAll name n key l → places_by same_key key (named name l) ≡ places n l
  places-named n l h = omega (
    arith,
    present-named n l.hot (λ m p. h m (omega (arith, p))),
    present-named n l.warm (λ m p. h m (omega (arith, p))),
    present-named n l.cold (λ m p. h m (omega (arith, p))),
  )

  pub places-misses : (l : Lists) → ((m : ℕ) → 1 ≤ places m l → same_key key (name m) ≡ false) → places_by same_key key (named name l) ≡ 0
  places-misses l h = omega (
    arith,
    present-misses l.hot (λ m p. h m (omega (arith, p))),
    present-misses l.warm (λ m p. h m (omega (arith, p))),
    present-misses l.cold (λ m p. h m (omega (arith, p))),
  )

module _ {l : Links} (h : IsLinked l) where
  places_of : (key : List ℕ) (item : Item) → l.item key ≡ Some item → (class : ℕ) → places_by same_key key (named (key_of l) (l.lists class)) ≡ cond (nat_eq class item.class) 1 0
  places_of key item is class = places-named (key_of l) key item.number (l.lists class) (matches h key item is class) ∙ h.placed key item is class

  places_none : (key : List ℕ) → l.item key ≡ None → (class : ℕ) → places_by same_key key (named (key_of l) (l.lists class)) ≡ 0
  places_none key none class = places-misses (key_of l) key (l.lists class) (λ m p. misses h key none m class p)

  -- an item that is held of a key
  held_once : (key : List ℕ) (class : ℕ) → IsHeldIn (stock_of l) key class → (o : Option Item) → l.item key ≡ o → places_by same_key key (named (key_of l) (l.lists class)) ≡ 1
  held_once key class held None e =
      let none : None ≡ Some held.bytes = sym (ap (bytes_of l.storage) e) ∙ held.held in cc
  held_once key class held (Some item) e =
      let s = h.sound key item e in
      let both : Some held.bytes ≡ Some s.bytes = sym held.held ∙ ap (bytes_of l.storage) e ∙ s.holds in
      let one : held.bytes ≡ s.bytes = cc in
      let same : class ≡ item.class = one_class (length s.bytes) class item.class (subst (λ (b : List ℕ). IsClassOf (length b) class) one held.fits) s.fits in
      places_of key item e class ∙ ap (λ b. cond {A = ℕ} b 1 0) (same_numbers class item.class same)

  listed_held : (key : List ℕ) (class : ℕ) → 1 ≤ places_by same_key key (named (key_of l) (l.lists class)) → (o : Option Item) → l.item key ≡ o → IsHeldIn (stock_of l) key class
  listed_held key class p None e = absurd (omega (arith, p, places_none key e class))
  listed_held key class p (Some item) e = elim (cases_eq class item.class) [
    | inl same ↦
        let s = h.sound key item e in
        record { bytes = s.bytes; held = ap (bytes_of l.storage) e ∙ s.holds; fits = subst (IsClassOf (length s.bytes)) (sym same) s.fits }
    | inr apart ↦
        let none : places_by same_key key (named (key_of l) (l.lists class)) ≡ 0 = places_of key item e class ∙ ap (λ b. cond {A = ℕ} b 1 0) (other_numbers class item.class apart) in
        absurd (omega (arith, p, none))
  ]

  pub stock-listed : IsListed (stock_of l)
  stock-listed = record {
    once = λ key class held. held_once key class held (l.item key) refl;
    only = λ key class p. listed_held key class p (l.item key) refl;
  }

  -- a key whose item is not in HOT of a class is not there
  not_hot : (key : List ℕ) (class : ℕ) → IsNotHot l key class → (o : Option Item) → l.item key ≡ o → present_by same_key key (named_list (key_of l) (l.lists class).hot) ≡ 0
  not_hot key class away None e = present-misses (key_of l) key (l.lists class).hot (λ m p. misses h key e m class (omega (arith, p)))
  not_hot key class away (Some item) e =
      let shown : present_by same_key key (named_list (key_of l) (l.lists class).hot) ≡ present item.number (l.lists class).hot =
      present-named (key_of l) key item.number (l.lists class).hot (λ m p. matches h key item e class m (omega (arith, p))) in
      elim (cases_eq class item.class) [
        | inl same ↦ shown ∙ away item e (sym same)
        | inr apart ↦
            let none : places item.number (l.lists class) ≡ 0 = h.placed key item e class ∙ ap (λ b. cond {A = ℕ} b 1 0) (other_numbers class item.class apart) in
            omega (arith, shown, none)
      ]

  pub stock-not_hot : (key : List ℕ) (bytes class : ℕ) → IsClassOf bytes class → IsNotHot l key class → IsNotInHot (stock_of l) key bytes
  stock-not_hot key bytes class fits away = record {
    none = λ other its.
        subst (λ c. present_by same_key key (named_list (key_of l) (l.lists c).hot) ≡ 0) (one_class bytes class other fits its) (not_hot key class away (l.item key) refl);
  }

-- the move that is due goes to another list among keys as among numbers
is_some-map : {A B : Type 0} (f : A → B) (o : Option A) → is_some (option_map f o) ≡ is_some o
is_some-map f None = refl
is_some-map f (Some x) = refl

warm-map : (name : ℕ → List ℕ) (o : Option (ℕ × Access))
    → option_map_or (λ (e : List ℕ × Access). not e.1.active) (option_map (λ (e : ℕ × Access). (name e.0, e.1)) o) false ≡ option_map_or (λ (e : ℕ × Access). not e.1.active) o false
warm-map name None = refl
warm-map name (Some e) = refl

pub leaves_list-named : (name : ℕ → List ℕ) (l : Lists) → leaves_list (named name l) ≡ leaves_list l
leaves_list-named name l =
    let show : ℕ × Access → List ℕ × Access = λ e. (name e.0, e.1) in
    let over_hot : nat_lt (hot_limit (named name l)) (length (named_list name l.hot)) ≡ nat_lt (hot_limit l) (length l.hot) = λ i. nat_lt (20 * count-named name l i / 100) (length-map l.hot show i) in
    let over_warm : nat_lt (warm_limit (named name l)) (length (named_list name l.warm)) ≡ nat_lt (warm_limit l) (length l.warm) = λ i. nat_lt (40 * count-named name l i / 100) (length-map l.warm show i) in
    let hot : is_some (last_entry (named_list name l.hot)) ≡ is_some (last_entry l.hot) = ap is_some (last-named name l.hot) ∙ is_some-map show (last_entry l.hot) in
    let warm : warm_leaves (named name l) ≡ warm_leaves l = ap (λ (o : Option (List ℕ × Access)). option_map_or (λ (e : List ℕ × Access). not e.1.active) o false) (last-named name l.warm) ∙ warm-map name (last_entry l.warm) in
    let cold : is_some (last_active (named_list name l.cold)) ≡ is_some (last_active l.cold) = ap is_some (last_active-named name l.cold) ∙ is_some-map show (last_active l.cold) in
    λ i. cond (over_hot i) (hot i) (cond (over_warm i) (warm i) (cold i))

-- The links outlast an item that comes, and its key is held in the stock from then on.
use Rattle.std.proofs.Common.{◌≡◌, ◌≢◌, ℕ, ◌+◌, ◌-◌, ◌*◌, ◌/◌, ◌<◌, ◌⊎◌, inl, inr, Bool, true, false, nat_eq, cond, List, [], length, Option, Some, None, refl, sym, ap, subst, ◌∙◌, arith}
use Rattle.std.proofs.lemmas.Bool.{cases_eq}
use Rattle.std.proofs.lemmas.Nat.{div-mul-add}
use Rattle.std.specs.Option.{unwrap_or}
use Rattle.sha2.specs.Sha256.{sha256}
use Rattle.geo_records.specs.Keys.{same_key}
use Rattle.geo_slabs.specs.Storage.{Storage, PutDoes, IsClassOf, class_count, chunks_a_page, chunks_in, class_in, held_in}
use Rattle.geo_slabs.specs.declared.slabs.Chunk.{Chunk}
use Rattle.geo_slabs.proofs.Kept.{put_gives, put_class, put_new, put_keeps_held}
use Rattle.geo_lru.specs.Rules.{ListsOf, count}
use Rattle.geo_lru.specs.Lists.{places, entered}
use Rattle.geo_lru.proofs.Calls.{places-entered}
use Rattle.geo_values.specs.Stock.{Stock, Same, arrived}
use Rattle.geo_values.specs.Links.{Links, IsItem, IsBack, IsLinked, bytes_of, key_of, named, pages_in, stock_of}
use Rattle.geo_values.specs.Steps.{admitted, with_item}
use Rattle.geo_values.specs.declared.parts.Item.{Item}
use Rattle.geo_values.proofs.Names.{named-agree_all}
use Rattle.geo_values.proofs.Linked.{same_keys, same_self, other_keys, other_numbers, same_numbers}
use Rattle.geo_values.proofs.Putting.{Puts}
use Rattle.geo_values.proofs.First.{some_chunks}

-- a stock of which a class has so many pages more
abbrev pub with_pages : ℕ → ℕ → Stock → Stock
with_pages more class s = record { held = s.held; lists = s.lists; pages = λ c. s.pages c + cond (nat_eq c class) more 0; spare = s.spare - more }

-- the links with the item
abbrev pub with_all : ℕ → List ℕ → ℕ → Storage → Item → Links → Links
with_all n key class storage item b = with_item key item (record { item = b.item; key = (admitted n key class b).key; storage = storage; lists = (admitted n key class b).lists })

module _ (b : Links) (h : IsLinked b) (n : ℕ) (key : List ℕ) (class : ℕ) (free : b.key n ≡ None) (new_key : b.item key ≡ None) (lt : class < class_count)
    (storage : Storage) (bytes : List ℕ) (fits : IsClassOf (length bytes) class) (chunk : Chunk) (put : PutDoes b.storage storage class bytes (Some chunk))
    (more : ℕ) (puts : Puts b.storage storage class more) where
  abbrev item : Item
  item = record { number = n; digest = sha256 bytes; class = class; chunk = chunk }

  abbrev now : Links
  now = with_all n key class storage item b

  which : (q : List ℕ) (i : Item) → now.item q ≡ Some i → ((q ≡ key) × (item ≡ i)) ⊎ ((same_key q key ≡ false) × (b.item q ≡ Some i))
  which q i e = by (same_key q key) refl e
    where
      by : (t : Bool) → same_key q key ≡ t → cond t (Some item) (b.item q) ≡ Some i → ((q ≡ key) × (item ≡ i)) ⊎ ((same_key q key ≡ false) × (b.item q ≡ Some i))
      by true t e = inl (same_keys q key t, cc)
      by false t e = inr (t, e)

  item_here : (q : List ℕ) → q ≡ key → now.item q ≡ Some item
  item_here q e = ap (λ t. cond {A = Option Item} t (Some item) (b.item q)) (subst (λ k. same_key q k ≡ true) e (same_self q))

  item_stays : (q : List ℕ) (i : Item) → b.item q ≡ Some i → now.item q ≡ Some i
  item_stays q i e = ap (λ t. cond {A = Option Item} t (Some item) (b.item q)) (other_keys q key (λ same. let no : None ≡ Some i = sym new_key ∙ ap b.item (sym same) ∙ e in cc)) ∙ e

  number_apart : (q : List ℕ) (i : Item) → b.item q ≡ Some i → i.number ≢ n
  number_apart q i is same = let no : None ≡ Some q = sym free ∙ ap b.key (sym same) ∙ h.there q i is in cc

  key_here : (m : ℕ) → m ≡ n → now.key m ≡ Some key
  key_here m e = ap (λ t. cond {A = Option (List ℕ)} t (Some key) (b.key m)) (same_numbers m n e)

  key_stays : (m : ℕ) → m ≢ n → now.key m ≡ b.key m
  key_stays m ne = ap (λ t. cond {A = Option (List ℕ)} t (Some key) (b.key m)) (other_numbers m n ne)

  sound_new : IsItem storage item
  sound_new = record { bytes = bytes; holds = put_gives b.storage storage class bytes chunk put; digest = refl; class = put_class b.storage storage class bytes chunk put; fits = fits }

  holds_kept : (i : Item) (s : IsItem b.storage i) → held_in storage i.chunk ≡ Some s.bytes
  holds_kept i s = put_keeps_held b.storage storage class bytes (Some chunk) put i.chunk s.bytes s.holds

  sound_now : (q : List ℕ) (i : Item) → now.item q ≡ Some i → IsItem storage i
  sound_now q i e = elim (which q i e) [
    | inl t ↦ subst (IsItem storage) t.1 sound_new
    | inr t ↦ let s = h.sound q i t.1 in record { bytes = s.bytes; holds = holds_kept i s; digest = s.digest; class = s.class; fits = s.fits }
  ]

  there_now : (q : List ℕ) (i : Item) → now.item q ≡ Some i → now.key i.number ≡ Some q
  there_now q i e = elim (which q i e) [
    | inl t ↦ key_here i.number (sym (ap (λ (x : Item). x.number) t.1)) ∙ ap Some (sym t.0)
    | inr t ↦ key_stays i.number (number_apart q i t.1) ∙ h.there q i t.1
  ]

  back_now : (m : ℕ) (q : List ℕ) → now.key m ≡ Some q → IsBack now m q
  back_now m q e = elim (cases_eq m n) [
    | inl same ↦
        let keys : Some key ≡ Some q = sym (key_here m same) ∙ e in
        let one_key : key ≡ q = cc in
        record { item = item; is = item_here q (sym one_key); numbered = sym same }
    | inr ne ↦ let bk = h.back m q (sym (key_stays m ne) ∙ e) in record { item = bk.item; is = item_stays q bk.item bk.is; numbered = bk.numbered }
  ]

  -- the new chunk is no other item's
  chunk_apart : (q : List ℕ) (i : Item) → b.item q ≡ Some i → item.chunk ≢ i.chunk
  chunk_apart q i is same =
      let no : None ≡ Some (h.sound q i is).bytes = sym (put_new b.storage storage class bytes chunk put) ∙ ap (held_in b.storage) same ∙ (h.sound q i is).holds in cc

  apart_now : (q r : List ℕ) (i j : Item) → now.item q ≡ Some i → now.item r ≡ Some j → i.chunk ≡ j.chunk → q ≡ r
  apart_now q r i j ei ej e = elim (which q i ei) [
    | inl s ↦ elim (which r j ej) [
      | inl t ↦ s.0 ∙ sym t.0
      | inr t ↦ absurd (chunk_apart r j t.1 (ap (λ (x : Item). x.chunk) s.1 ∙ e))
    ]
    | inr s ↦ elim (which r j ej) [
      | inl t ↦ absurd (chunk_apart q i s.1 (ap (λ (x : Item). x.chunk) t.1 ∙ sym e))
      | inr t ↦ h.apart q r i j s.1 t.1 e
    ]
  ]

  places_are : (m c : ℕ) → places m (now.lists c) ≡ places m (b.lists c) + cond (nat_eq c class) (cond (nat_eq m n) 1 0) 0
  places_are m c = by (nat_eq c class)
    where
      by : (t : Bool) → places m (cond t (entered n (b.lists c)) (b.lists c)) ≡ places m (b.lists c) + cond t (cond (nat_eq m n) 1 0) 0
      by true = places-entered m n (b.lists c)
      by false = omega arith

  placed_now : (q : List ℕ) (i : Item) → now.item q ≡ Some i → (c : ℕ) → places i.number (now.lists c) ≡ cond (nat_eq c i.class) 1 0
  placed_now q i e c = elim (which q i e) [
    | inl t ↦ subst (λ (x : Item). places x.number (now.lists c) ≡ cond (nat_eq c x.class) 1 0) t.1
        (places_are n c ∙ omega (arith, h.only n c free, ap (λ s. cond {A = ℕ} (nat_eq c class) (cond s 1 0) 0) (same_numbers n n refl)))
    | inr t ↦ places_are i.number c ∙ ap (λ s. places i.number (b.lists c) + cond (nat_eq c class) (cond s 1 0) 0) (other_numbers i.number n (number_apart q i t.1))
        ∙ nothing (nat_eq c class) (places i.number (b.lists c)) ∙ h.placed q i t.1 c
  ]
    where
      nothing : (t : Bool) (k : ℕ) → k + cond t 0 0 ≡ k
      nothing true k = omega arith
      nothing false k = omega arith

  only_now : (m c : ℕ) → now.key m ≡ None → places m (now.lists c) ≡ 0
  only_now m c e = elim (cases_eq m n) [
    | inl same ↦ let no : None ≡ Some key = sym e ∙ key_here m same in absurd cc
    | inr ne ↦
        let was : places m (b.lists c) ≡ 0 = h.only m c (sym (key_stays m ne) ∙ e) in
        places_are m c ∙ ap (λ s. places m (b.lists c) + cond (nat_eq c class) (cond s 1 0) 0) (other_numbers m n ne) ∙ by (nat_eq c class) (places m (b.lists c)) was
  ]
    where
      by : (t : Bool) (k : ℕ) → k ≡ 0 → k + cond t 0 0 ≡ 0
      by true k z = omega (arith, z)
      by false k z = omega (arith, z)

  count_now : (c : ℕ) → count (now.lists c) ≡ count (b.lists c) + cond (nat_eq c class) 1 0
  count_now c = by (nat_eq c class)
    where
      by : (t : Bool) → count (cond t (entered n (b.lists c)) (b.lists c)) ≡ count (b.lists c) + cond t 1 0
      by true = omega arith
      by false = omega arith

  -- the class has so many pages more
  by_pages : (c : ℕ) → c < class_count → length (chunks_in storage c) ≡ (pages_in b.storage c + cond (nat_eq c class) more 0) * chunks_a_page c
  by_pages c clt = by (nat_eq c class) refl
    where
      by : (t : Bool) → nat_eq c class ≡ t → length (chunks_in storage c) ≡ (pages_in b.storage c + cond t more 0) * chunks_a_page c
      by true t =
          let same : c ≡ class = Rattle.std.proofs.lemmas.Bool.eqb-true c class t in
          let long : length (chunks_in storage c) ≡ length (chunks_in b.storage c) + more * (class_in b.storage class).per_page = puts.long c ∙ ap (λ s. length (chunks_in b.storage c) + cond s (more * (class_in b.storage class).per_page) 0) t in
          let per : (class_in b.storage class).per_page ≡ chunks_a_page c = h.cut class lt ∙ ap chunks_a_page (sym same) in
          long ∙ ap (λ (k : ℕ). length (chunks_in b.storage c) + more * k) per ∙ ap (λ (k : ℕ). k + more * chunks_a_page c) (sym (h.whole c clt)) ∙ sym (Rattle.std.proofs.Math.Nat.add-mul (pages_in b.storage c) more (chunks_a_page c))
      by false t =
          puts.long c ∙ ap (λ s. length (chunks_in b.storage c) + cond s (more * (class_in b.storage class).per_page) 0) t
          ∙ omega arith ∙ sym (h.whole c clt) ∙ ap (λ (k : ℕ). k * chunks_a_page c) (omega arith)

  pages_below : (c : ℕ) → c < class_count → pages_in storage c ≡ pages_in b.storage c + cond (nat_eq c class) more 0
  pages_below c clt =
      ap (λ (k : ℕ). k / chunks_a_page c) (by_pages c clt ∙ omega arith)
      ∙ div-mul-add (pages_in b.storage c + cond (nat_eq c class) more 0) (chunks_a_page c) 0 (some_chunks c)

  pages_now : (c : ℕ) → pages_in storage c ≡ pages_in b.storage c + cond (nat_eq c class) more 0
  pages_now c = elim (cases_eq c class) [
    | inl same ↦ pages_below c (subst (λ k. k < class_count) (sym same) lt)
    | inr ne ↦
        let no : nat_eq c class ≡ false = other_numbers c class ne in
        let long : length (chunks_in storage c) ≡ length (chunks_in b.storage c) = puts.long c ∙ ap (λ s. length (chunks_in b.storage c) + cond s (more * (class_in b.storage class).per_page) 0) no ∙ omega arith in
        ap (λ (k : ℕ). k / chunks_a_page c) long ∙ sym (ap (λ s. pages_in b.storage c + cond s more 0) no ∙ omega arith)
  ]

  pub linked-arrived : IsLinked now
  linked-arrived = record {
    sound = sound_now;
    there = there_now;
    back = back_now;
    apart = apart_now;
    placed = placed_now;
    only = only_now;
    counted = λ c clt. puts.counted c ∙ ap (λ (k : ℕ). k + cond (nat_eq c class) 1 0) (h.counted c clt) ∙ sym (count_now c);
    cut = λ c clt. puts.per_page c ∙ h.cut c clt;
    whole = λ c clt. ap (λ (k : ℕ). k * chunks_a_page c) (pages_below c clt) ∙ sym (by_pages c clt);
    opened = λ c clt. omega (arith, puts.long c, h.opened c clt);
    classes = puts.classes ∙ h.classes;
  }

  held_now : (q : List ℕ) → bytes_of storage (now.item q) ≡ cond (same_key q key) (Some bytes) (bytes_of b.storage (b.item q))
  held_now q = by (same_key q key)
    where
      old : (o : Option Item) → b.item q ≡ o → bytes_of storage o ≡ bytes_of b.storage o
      old None e = refl
      old (Some i) e = holds_kept i (h.sound q i e) ∙ sym (h.sound q i e).holds

      by : (t : Bool) → bytes_of storage (cond t (Some item) (b.item q)) ≡ cond t (Some bytes) (bytes_of b.storage (b.item q))
      by true = put_gives b.storage storage class bytes chunk put
      by false = old (b.item q) refl

  old_names : (c : ℕ) → named (key_of now) (b.lists c) ≡ named (key_of b) (b.lists c)
  old_names c = named-agree_all (key_of b) (key_of now) (b.lists c) (λ m p. ap (λ (o : Option (List ℕ)). unwrap_or o []) (key_stays m (λ same. absurd (omega (arith, p, ap (λ k. places k (b.lists c)) same, h.only n c free)))))

  lists_now : (c : ℕ) → named (key_of now) (now.lists c) ≡ cond (nat_eq c class) (entered key (named (key_of b) (b.lists c))) (named (key_of b) (b.lists c))
  lists_now c = by (nat_eq c class)
    where
      by : (t : Bool) → named (key_of now) (cond t (entered n (b.lists c)) (b.lists c)) ≡ cond t (entered key (named (key_of b) (b.lists c))) (named (key_of b) (b.lists c))
      by true =
          ap (λ (k : List ℕ). entered k (named (key_of now) (b.lists c))) (ap (λ (o : Option (List ℕ)). unwrap_or o []) (key_here n refl))
          ∙ ap (λ (l : ListsOf (List ℕ)). entered key l) (old_names c)
      by false = old_names c

  pub stock-arrived : Same (arrived key bytes class (with_pages more class (stock_of b))) (stock_of now)
  stock-arrived = record { held = held_now; lists = lists_now; pages = pages_now; spare = puts.spare }

-- The links outlast an item that is taken out, and its key is dropped from the stock.
use Rattle.std.proofs.Common.{◌≡◌, ◌≢◌, ℕ, ◌+◌, ◌-◌, ◌*◌, ◌/◌, ◌<◌, ◌≤◌, inl, inr, Bool, true, false, not, nat_eq, cond, List, [], length, Option, Some, None, slice_get, slice_set, refl, sym, ap, subst, ◌∙◌, arith}
use Rattle.std.proofs.lemmas.Bool.{cases_eq}
use Rattle.std.proofs.lemmas.List.{length-set}
use Rattle.std.specs.Option.{unwrap_or}
use Rattle.geo_records.specs.Keys.{same_key}
use Rattle.geo_slabs.specs.Chunks.{ClassState}
use Rattle.geo_slabs.specs.Storage.{Storage, class_count, chunks_a_page, chunks_in, class_in, held_in, with_chunks}
use Rattle.geo_slabs.proofs.Kept.{free_keeps}
use Rattle.geo_lru.specs.Rules.{count}
use Rattle.geo_lru.specs.Lists.{Lists, places, left}
use Rattle.geo_lru.proofs.Calls.{places-left}
use Rattle.geo_lru.proofs.Tallies.{one, none}
use Rattle.geo_values.specs.Stock.{Same, dropped, staying}
use Rattle.geo_values.specs.Links.{Links, IsLinked, bytes_of, key_of, named, held_count, pages_in, stock_of}
use Rattle.geo_values.specs.Steps.{SameLinks, taken_out}
use Rattle.geo_values.specs.declared.parts.Item.{Item}
use Rattle.geo_values.proofs.Names.{named-left}
use Rattle.geo_values.proofs.Chunks.{cell_of, class_there, set_same, set_other, set_per_page, set_length, held_count-set}
use Rattle.geo_values.proofs.Counts.{count-left}
use Rattle.geo_values.proofs.Linked.{same_self, other_keys, other_numbers, same_numbers, left-absent, same_number, once, matches, holds_some}
use Rattle.geo_values.proofs.Staying.{left-staying}

module _ {l l' : Links} (h : IsLinked l) (key : List ℕ) (item : Item) (is : l.item key ≡ Some item) (out : SameLinks (taken_out key item l) l') where
  abbrev n : ℕ
  n = item.number

  item_gone : (q : List ℕ) → same_key q key ≡ true → l'.item q ≡ None
  item_gone q t = out.item q ∙ ap (λ b. cond {A = Option Item} b None (l.item q)) t

  item_stays : (q : List ℕ) → same_key q key ≡ false → l'.item q ≡ l.item q
  item_stays q t = out.item q ∙ ap (λ b. cond {A = Option Item} b None (l.item q)) t

  item_kept : (q : List ℕ) (i : Item) → l'.item q ≡ Some i → (l.item q ≡ Some i) × (q ≢ key)
  item_kept q i e = by (same_key q key) refl
    where
      by : (t : Bool) → same_key q key ≡ t → (l.item q ≡ Some i) × (q ≢ key)
      by true t = let gone = item_gone q t in absurd cc
      by false t = (sym (item_stays q t) ∙ e, λ same. let yes : same_key q key ≡ true = subst (λ k. same_key q k ≡ true) same (same_self q) in cc)

  number_apart : (q : List ℕ) (i : Item) → l.item q ≡ Some i → q ≢ key → i.number ≢ n
  number_apart q i e ne same = ne (same_number h q key i item e is same)

  key_stays : (m : ℕ) → m ≢ n → l'.key m ≡ l.key m
  key_stays m ne = out.key m ∙ ap (λ b. cond {A = Option (List ℕ)} b None (l.key m)) (other_numbers m n ne)

  key_kept : (m : ℕ) (q : List ℕ) → l'.key m ≡ Some q → (l.key m ≡ Some q) × (m ≢ n)
  key_kept m q e = elim (cases_eq m n) [
    | inl same ↦ let gone : l'.key m ≡ None = out.key m ∙ ap (λ b. cond {A = Option (List ℕ)} b None (l.key m)) (same_numbers m n same) in absurd cc
    | inr ne ↦ (sym (key_stays m ne) ∙ e, ne)
  ]

  chunk_keeps : (q : List ℕ) (i : Item) → l.item q ≡ Some i → q ≢ key → held_in l'.storage i.chunk ≡ held_in l.storage i.chunk
  chunk_keeps q i e ne = free_keeps l.storage l'.storage item.chunk out.storage (holds_some h key item is) i.chunk (λ same. ne (h.apart q key i item e is same))

  -- it stands in the lists of its class alone, so that it leaves those of each
  lists_are : (class : ℕ) → l'.lists class ≡ left n (l.lists class)
  lists_are class = by (nat_eq class item.class) refl
    where
      by : (t : Bool) → nat_eq class item.class ≡ t → l'.lists class ≡ left n (l.lists class)
      by true t = out.lists class ∙ ap (λ b. cond {A = Lists} b (left n (l.lists class)) (l.lists class)) t
      by false t =
          out.lists class ∙ ap (λ b. cond {A = Lists} b (left n (l.lists class)) (l.lists class)) t
          ∙ sym (left-absent n (l.lists class) (h.placed key item is class ∙ ap (λ b. cond {A = ℕ} b 1 0) t))

  places_are : (m class : ℕ) → places m (l'.lists class) ≡ places m (l.lists class) - cond (nat_eq m n) 1 0
  places_are m class = ap (places m) (lists_are class) ∙ places-left m n (l.lists class) (once h n class)

  abbrev freed : List (Option (List ℕ))
  freed = slice_set (chunks_in l.storage item.chunk.class) item.chunk.number None

  abbrev bytes : List ℕ
  bytes = (h.sound key item is).bytes

  cell : slice_get (chunks_in l.storage item.chunk.class) item.chunk.number ≡ Some (Some bytes)
  cell = cell_of l.storage item.chunk bytes (h.sound key item is).holds

  there : item.chunk.class < length l.storage.classes
  there = class_there l.storage item.chunk.class item.chunk.number (Some bytes) cell

  lengths : (class : ℕ) → length (chunks_in l'.storage class) ≡ length (chunks_in l.storage class)
  lengths class =
      ap (λ (s : Storage). length (chunks_in s class)) out.storage
      ∙ set_length l.storage item.chunk.class freed there class (length-set (chunks_in l.storage item.chunk.class) item.chunk.number None)

  home : item.chunk.class ≡ item.class
  home = (h.sound key item is).class

  counted_now : (class : ℕ) → class < class_count → held_count (chunks_in l'.storage class) ≡ count (l'.lists class)
  counted_now class lt = elim (cases_eq class item.class) [
    | inl same ↦
        let here : class ≡ item.chunk.class = same ∙ sym home in
        let now : held_count (chunks_in l'.storage class) ≡ held_count freed =
        ap (λ (s : Storage). held_count (chunks_in s class)) out.storage
        ∙ ap (λ c. held_count (chunks_in (with_chunks l.storage item.chunk.class freed) c)) here
        ∙ ap (λ (c : ClassState). held_count c.chunks) (set_same l.storage item.chunk.class freed there) in
        let before : held_count freed + 1 ≡ held_count (chunks_in l.storage item.chunk.class) + 0 = held_count-set (chunks_in l.storage item.chunk.class) item.chunk.number (Some bytes) None cell in
        let was : held_count (chunks_in l.storage item.chunk.class) ≡ count (l.lists class) = ap (λ c. held_count (chunks_in l.storage c)) (sym here) ∙ h.counted class lt in
        let stood : places n (l.lists class) ≡ 1 = h.placed key item is class ∙ ap (λ b. cond {A = ℕ} b 1 0) (same_numbers class item.class same) in
        let gone : count (l'.lists class) ≡ count (left n (l.lists class)) = ap count (lists_are class) in
        omega (arith, now, before, was, stood, gone, count-left n (l.lists class) (once h n class))
    | inr apart ↦
        let away : class ≢ item.chunk.class = λ e. apart (e ∙ home) in
        let now : held_count (chunks_in l'.storage class) ≡ held_count (chunks_in l.storage class) =
        ap (λ (s : Storage). held_count (chunks_in s class)) out.storage
        ∙ ap (λ (c : ClassState). held_count c.chunks) (set_other l.storage item.chunk.class freed there class away) in
        let stood : places n (l.lists class) ≡ 0 = h.placed key item is class ∙ ap (λ b. cond {A = ℕ} b 1 0) (other_numbers class item.class apart) in
        let gone : count (l'.lists class) ≡ count (l.lists class) = ap count (lists_are class ∙ left-absent n (l.lists class) stood) in
        now ∙ h.counted class lt ∙ sym gone
  ]

  pages_are : (class : ℕ) → pages_in l'.storage class ≡ pages_in l.storage class
  pages_are class = ap (λ (m : ℕ). m / chunks_a_page class) (lengths class)

  pub linked-out : IsLinked l'
  linked-out = record {
    sound = λ q i e.
        let was = item_kept q i e in
        let s = h.sound q i was.0 in
        record { bytes = s.bytes; holds = chunk_keeps q i was.0 was.1 ∙ s.holds; digest = s.digest; class = s.class; fits = s.fits };
    there = λ q i e. let was = item_kept q i e in key_stays i.number (number_apart q i was.0 was.1) ∙ h.there q i was.0;
    back = λ m q e.
        let was = key_kept m q e in
        let b = h.back m q was.0 in
        let ne : q ≢ key = λ same.
        let both : Some b.item ≡ Some item = sym b.is ∙ ap l.item same ∙ is in
        let one_item : b.item ≡ item = cc in
        was.1 (sym b.numbered ∙ ap (λ (i : Item). i.number) one_item) in
        record { item = b.item; is = item_stays q (other_keys q key ne) ∙ b.is; numbered = b.numbered };
    apart = λ q r i j ei ej e. h.apart q r i j (item_kept q i ei).0 (item_kept r j ej).0 e;
    placed = λ q i e class.
        let was = item_kept q i e in
        omega (arith, places_are i.number class, none (nat_eq i.number n) (other_numbers i.number n (number_apart q i was.0 was.1)), h.placed q i was.0 class);
    only = λ m class e. elim (cases_eq m n) [
      | inl same ↦
          let most : places m (l.lists class) ≤ 1 = once h m class in
          omega (arith, places_are m class, one (nat_eq m n) (same_numbers m n same), most)
      | inr ne ↦ omega (arith, places_are m class, h.only m class (sym (key_stays m ne) ∙ e))
    ];
    counted = counted_now;
    cut = λ class lt. ap (λ (s : Storage). (class_in s class).per_page) out.storage ∙ set_per_page l.storage item.chunk.class freed there class ∙ h.cut class lt;
    whole = λ class lt. ap (λ (p : ℕ). p * chunks_a_page class) (pages_are class) ∙ h.whole class lt ∙ sym (lengths class);
    opened = λ class lt. subst (λ (m : ℕ). 0 < m) (sym (lengths class)) (h.opened class lt);
    classes = ap (λ (s : Storage). length s.classes) out.storage ∙ length-set l.storage.classes item.chunk.class (record (class_in l.storage item.chunk.class) { chunks = freed }) ∙ h.classes;
  }

  held_now : (q : List ℕ) → bytes_of l'.storage (l'.item q) ≡ cond (same_key q key) None (bytes_of l.storage (l.item q))
  held_now q = by (same_key q key) refl
    where
      found : same_key q key ≡ false → (o : Option Item) → l.item q ≡ o → bytes_of l'.storage o ≡ bytes_of l.storage o
      found t None e = refl
      found t (Some i) e = chunk_keeps q i e (λ same. let yes : same_key q key ≡ true = subst (λ k. same_key q k ≡ true) same (same_self q) in cc)

      by : (t : Bool) → same_key q key ≡ t → bytes_of l'.storage (l'.item q) ≡ cond t None (bytes_of l.storage (l.item q))
      by true t = ap (bytes_of l'.storage) (item_gone q t)
      by false t = ap (bytes_of l'.storage) (item_stays q t) ∙ found t (l.item q) refl

  lists_now : (class : ℕ) → named (key_of l') (l'.lists class) ≡ staying (λ q. not (same_key q key)) (named (key_of l) (l.lists class))
  lists_now class =
      ap (named (key_of l')) (lists_are class)
      ∙ named-left (key_of l) n key (l.lists class) (matches h key item is class) (key_of l') (λ m ne. ap (λ (o : Option (List ℕ)). unwrap_or o []) (key_stays m ne)) (once h n class)
      ∙ left-staying (key_of l) n key (l.lists class) (matches h key item is class) (once h n class)

  pub stock-out : Same (dropped key (stock_of l)) (stock_of l')
  stock-out = record { held = held_now; lists = lists_now; pages = pages_are; spare = ap (λ (s : Storage). s.spare) out.storage }

-- Bytes of a key that is not held come, where their class is not full.
use Rattle.std.proofs.Common.{◌≡◌, ℕ, ◌<◌, ◌&&◌, Bool, true, false, nat_eq, cond, List, length, Option, Some, None, refl, sym, ap, subst, ◌∙◌}
use Rattle.std.proofs.lemmas.Bool.{eqb-true}
use Rattle.geo_slabs.specs.Storage.{IsFull, IsClassOf, class_count}
use Rattle.geo_slabs.specs.declared.slabs.Chunk.{Chunk}
use Rattle.sha2.specs.Sha256.{sha256}
use Rattle.geo_values.specs.Stock.{Stock, Same, arrived, is_full, is_used_up, with_chunk, with_page_of, with_room}
use Rattle.geo_values.specs.Links.{Links, IsLinked, stock_of}
use Rattle.geo_values.specs.Steps.{SameLinks, IsPutIn, admitted, with_item}
use Rattle.geo_values.proofs.Linked.{same_numbers}
use Rattle.geo_values.proofs.Stored.{used_up, not_used_up, room_free, room_page, full_is, linked-stored, stores-plainly}

both : (a b : Bool) → (a && b) ≡ true → (a ≡ true) × (b ≡ true)
both true b e = (refl, e)
both false b e = cc

-- a class that is full in the stock is so in the slabs, and the other way round
module _ (b : Links) (h : IsLinked b) (class : ℕ) (lt : class < class_count) where
  full-storage : is_full (stock_of b) class ≡ true → IsFull b.storage class
  full-storage full =
      let t = both (is_used_up (stock_of b) class) (nat_eq b.storage.spare 0) full in
      (λ number free. let no : true ≡ false = sym t.0 ∙ not_used_up b h class lt number free in absurd cc, eqb-true b.storage.spare 0 t.1)

  storage-full : IsFull b.storage class → is_full (stock_of b) class ≡ true
  storage-full full = full_is class (stock_of b) (used_up b h class lt full.0) (same_numbers b.storage.spare 0 full.1)

  pub full-told : (told : Bool) → (told ≡ true → IsFull b.storage class) → (told ≡ false → IsFull b.storage class → ⊥) → told ≡ is_full (stock_of b) class
  full-told true full room = sym (storage-full (full refl))
  full-told false full room = by (is_full (stock_of b) class) refl
    where
      by : (t : Bool) → is_full (stock_of b) class ≡ t → false ≡ t
      by true e = absurd (room refl (full-storage e))
      by false e = refl

  pub not-full : is_full (stock_of b) class ≡ false → IsFull b.storage class → ⊥
  not-full room full = let no : true ≡ false = sym (storage-full full) ∙ room in absurd cc

-- in a class that is not full nothing is evicted for a chunk
room-chunk : (class : ℕ) (s : Stock) → is_full s class ≡ false → with_room class s ≡ with_chunk class s
room-chunk class s room = by (is_used_up s class) refl (nat_eq s.spare 0) refl
  where
    by : (u : Bool) → is_used_up s class ≡ u → (z : Bool) → nat_eq s.spare 0 ≡ z → with_room class s ≡ with_chunk class s
    by false hu z hz = room_free class s hu ∙ sym (ap (λ b. cond {A = Stock} b (with_page_of class s) s) hu)
    by true hu false hz = room_page class s hu hz ∙ sym (ap (λ b. cond {A = Stock} b (with_page_of class s) s) hu)
    by true hu true hz = let no : true ≡ false = sym (full_is class s hu hz) ∙ room in absurd cc

module _ (n : ℕ) (key : List ℕ) (class : ℕ) (bytes : List ℕ) (fits : IsClassOf (length bytes) class) (chunk : Chunk) (b : Links) (h : IsLinked b) (free : b.key n ≡ None)
    (gone : b.item key ≡ None) (before after : Links) (waits : SameLinks (admitted n key class b) before) (put : IsPutIn before after class bytes chunk) (l' : Links)
    (placed : SameLinks (with_item key (record { number = n; digest = sha256 bytes; class = class; chunk = chunk }) after) l') where
  at_first : before ≡ admitted n key class b
  at_first = λ i. record { item = λ q. waits.item q i; key = λ m. waits.key m i; storage = waits.storage i; lists = λ c. waits.lists c i }

  pub linked-admitted : IsLinked l'
  linked-admitted = linked-stored n key class fits.0 bytes fits chunk b h free gone before after at_first put l' placed

  pub stock-admitted : is_full (stock_of b) class ≡ false → Same (arrived key bytes class (with_chunk class (stock_of b))) (stock_of l')
  stock-admitted room = subst (λ (s : Stock). Same (arrived key bytes class s) (stock_of l')) (room-chunk class (stock_of b) room)
      (stores-plainly n key class fits.0 bytes fits chunk b h free gone before after at_first put l' placed).stored

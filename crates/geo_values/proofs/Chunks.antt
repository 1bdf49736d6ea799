-- The chunks of all classes after one of them holds something else, and how many of them hold something.
use Rattle.std.proofs.Common.{◌≡◌, ◌≢◌, ℕ, zero, suc, ◌+◌, ◌<◌, inl, inr, cond, is_some, List, [], ◌∷◌, length, Option, Some, None, slice_get, slice_set, sym, ap, ◌∙◌, arith}
use Rattle.std.proofs.lemmas.List.{get_or-set_same, get_or-set_other, get_or_past}
use Rattle.std.proofs.lemmas.List.Sums.{sum_by-cons}
use Rattle.std.proofs.lemmas.Bool.{cases_eq, cases_lt}
use Rattle.geo_slabs.specs.Chunks.{ClassState}
use Rattle.geo_slabs.specs.Storage.{Storage, chunks_in, class_in, held_in, held_of, no_class, with_chunks}
use Rattle.geo_slabs.specs.declared.slabs.Chunk.{Chunk}
use Rattle.geo_slabs.proofs.Kept.{finds, finds_none}
use Rattle.geo_values.specs.Links.{held_count}

-- the cell of a chunk that holds bytes
held_cell : (long : ℕ) (cell : Option (Option (List ℕ))) (held : List ℕ) → held_of long cell ≡ Some held → cell ≡ Some (Some held)
held_cell long None held h = cc
held_cell long (Some None) held h = cc
held_cell long (Some (Some b)) held h = elim (cases_eq (length b) long) [
  | inl same ↦ ap Some (sym (finds long b same) ∙ h)
  | inr other ↦ let none : None ≡ Some held = sym (finds_none long b other) ∙ h in absurd cc
]

pub cell_of : (storage : Storage) (chunk : Chunk) (held : List ℕ) → held_in storage chunk ≡ Some held → slice_get (chunks_in storage chunk.class) chunk.number ≡ Some (Some held)
cell_of storage chunk held h = held_cell chunk.length (slice_get (chunks_in storage chunk.class) chunk.number) held h

pub class_there : (storage : Storage) (class number : ℕ) (cell : Option (List ℕ)) → slice_get (chunks_in storage class) number ≡ Some cell → class < length storage.classes
class_there storage class number cell there = elim (cases_lt class (length storage.classes)) [
  | inl lt ↦ lt
  | inr ge ↦
      let nothing : slice_get (chunks_in storage class) number ≡ None = ap (λ (c : ClassState). slice_get c.chunks number) (get_or_past storage.classes class no_class ge) in
      absurd cc
]

-- a class that is set, and the others
module _ (storage : Storage) (class : ℕ) (chunks : List (Option (List ℕ))) (lt : class < length storage.classes) where
  pub set_same : class_in (with_chunks storage class chunks) class ≡ record (class_in storage class) { chunks = chunks }
  set_same = get_or-set_same storage.classes class (record (class_in storage class) { chunks = chunks }) no_class lt

  pub set_other : (other : ℕ) → other ≢ class → class_in (with_chunks storage class chunks) other ≡ class_in storage other
  set_other other ne = get_or-set_other storage.classes class other (record (class_in storage class) { chunks = chunks }) no_class ne

  pub set_per_page : (other : ℕ) → (class_in (with_chunks storage class chunks) other).per_page ≡ (class_in storage other).per_page
  set_per_page other = elim (cases_eq other class) [
    | inl same ↦ ap (λ c. (class_in (with_chunks storage class chunks) c).per_page) same ∙ ap (λ (c : ClassState). c.per_page) set_same ∙ ap (λ c. (class_in storage c).per_page) (sym same)
    | inr apart ↦ ap (λ (c : ClassState). c.per_page) (set_other other apart)
  ]

  pub set_length : (other : ℕ) → length chunks ≡ length (chunks_in storage class) → length (chunks_in (with_chunks storage class chunks) other) ≡ length (chunks_in storage other)
  set_length other same_length = elim (cases_eq other class) [
    | inl same ↦ ap (λ c. length (chunks_in (with_chunks storage class chunks) c)) same ∙ ap (λ (c : ClassState). length c.chunks) set_same ∙ same_length ∙ ap (λ c. length (chunks_in storage c)) (sym same)
    | inr apart ↦ ap (λ (c : ClassState). length c.chunks) (set_other other apart)
  ]

-- one more chunk holds something, or one fewer
held_count-cons : (cell : Option (List ℕ)) (cells : List (Option (List ℕ))) → held_count (cell ∷ cells) ≡ cond (is_some cell) 1 0 + held_count cells
held_count-cons cell cells = sum_by-cons (λ (c : Option (List ℕ)). cond (is_some c) 1 0) cell cells

pub held_count-set : (cells : List (Option (List ℕ))) (number : ℕ) (old new : Option (List ℕ)) → slice_get cells number ≡ Some old
    → held_count (slice_set cells number new) + cond (is_some old) 1 0 ≡ held_count cells + cond (is_some new) 1 0
held_count-set [] number old new h = cc
held_count-set (cell ∷ cells) zero old new h =
    let same : cell ≡ old = cc in
    rw (same) (omega (arith, held_count-cons old cells, held_count-cons new cells))
held_count-set (cell ∷ cells) (suc number) old new h =
    omega (arith, held_count-set cells number old new h, held_count-cons cell cells, held_count-cons cell (slice_set cells number new))

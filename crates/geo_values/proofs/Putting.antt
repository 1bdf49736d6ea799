-- The chunks of all classes after bytes are put into one of them.
use Rattle.std.proofs.Common.{◌≡◌, ◌≢◌, ℕ, zero, suc, ◌+◌, ◌-◌, ◌*◌, ◌<◌, ◌≤◌, inl, inr, Bool, true, false, nat_eq, cond, is_some, List, [], ◌∷◌, ◌++◌, length, length-append, replicate, Option, Some, None, slice_get, slice_set, refl, sym, ap, ◌∙◌, arith}
use Rattle.std.proofs.lemmas.List.{get_or-set_same, get_or-set_other, length-set, length-replicate}
use Rattle.std.proofs.lemmas.List.Sums.{sum_by-cons}
use Rattle.std.proofs.lemmas.Bool.{cases_eq}
use Rattle.geo_slabs.specs.Chunks.{ClassState}
use Rattle.geo_slabs.specs.Storage.{Storage, IsPut, AllHeld, chunks_in, class_in, no_class, with_chunks, with_page}
use Rattle.geo_slabs.specs.declared.slabs.Chunk.{Chunk}
use Rattle.geo_lru.proofs.Tallies.{one, none}
use Rattle.geo_values.specs.Links.{held_count}
use Rattle.geo_values.proofs.Chunks.{class_there, set_same, set_other, set_per_page, set_length, held_count-set}
use Rattle.geo_values.proofs.Linked.{same_numbers, other_numbers}

-- what becomes of the classes: one chunk more holds something, and the class has so many pages more
pub record Puts (old new : Storage) (class more : ℕ) : Type 0 where
  pub counted : (c : ℕ) → held_count (chunks_in new c) ≡ held_count (chunks_in old c) + cond (nat_eq c class) 1 0
  pub per_page : (c : ℕ) → (class_in new c).per_page ≡ (class_in old c).per_page
  pub long : (c : ℕ) → length (chunks_in new c) ≡ length (chunks_in old c) + cond (nat_eq c class) (more * (class_in old class).per_page) 0
  pub classes : length new.classes ≡ length old.classes
  pub spare : new.spare ≡ old.spare - more

module _ {old new : Storage} {class : ℕ} {bytes : List ℕ} {chunk : Chunk} (put : IsPut old new class bytes chunk) where
  abbrev cells : List (Option (List ℕ))
  cells = slice_set (chunks_in old class) chunk.number (Some bytes)

  lt : class < length old.classes
  lt = class_there old class chunk.number None put.was_free

  put_counted : (c : ℕ) → held_count (chunks_in new c) ≡ held_count (chunks_in old c) + cond (nat_eq c class) 1 0
  put_counted c = elim (cases_eq c class) [
    | inl same ↦
        let now : held_count (chunks_in new c) ≡ held_count cells =
        ap (λ (s : Storage). held_count (chunks_in s c)) put.holds
        ∙ ap (λ k. held_count (chunks_in (with_chunks old class cells) k)) same
        ∙ ap (λ (k : ClassState). held_count k.chunks) (set_same old class cells lt) in
        let before : held_count cells + 0 ≡ held_count (chunks_in old class) + 1 = held_count-set (chunks_in old class) chunk.number None (Some bytes) put.was_free in
        let was : held_count (chunks_in old class) ≡ held_count (chunks_in old c) = ap (λ k. held_count (chunks_in old k)) (sym same) in
        omega (arith, now, before, was, one (nat_eq c class) (same_numbers c class same))
    | inr apart ↦
        let now : held_count (chunks_in new c) ≡ held_count (chunks_in old c) =
        ap (λ (s : Storage). held_count (chunks_in s c)) put.holds ∙ ap (λ (k : ClassState). held_count k.chunks) (set_other old class cells lt c apart) in
        omega (arith, now, none (nat_eq c class) (other_numbers c class apart))
  ]

  nothing_more : (b : Bool) (n : ℕ) → n ≡ n + cond b (0 * (class_in old class).per_page) 0
  nothing_more true n = omega arith
  nothing_more false n = omega arith

  pub puts-in : Puts old new class 0
  puts-in = record {
    counted = put_counted;
    per_page = λ c. ap (λ (s : Storage). (class_in s c).per_page) put.holds ∙ set_per_page old class cells lt c;
    long = λ c. ap (λ (s : Storage). length (chunks_in s c)) put.holds ∙ set_length old class cells lt c (length-set (chunks_in old class) chunk.number (Some bytes)) ∙ nothing_more (nat_eq c class) (length (chunks_in old c));
    classes = ap (λ (s : Storage). length s.classes) put.holds ∙ length-set old.classes class (record (class_in old class) { chunks = cells });
    spare = ap (λ (s : Storage). s.spare) put.holds ∙ omega arith;
  }

-- a page that is taken
held_count-nones : (cells : List (Option (List ℕ))) (n : ℕ) → held_count (cells ++ replicate n None) ≡ held_count cells
held_count-nones [] zero = refl
held_count-nones [] (suc n) = omega (arith, sum_by-cons (λ (c : Option (List ℕ)). cond (is_some c) 1 0) None (replicate n None), held_count-nones [] n)
held_count-nones (cell ∷ cells) n = omega (arith, sum_by-cons (λ (c : Option (List ℕ)). cond (is_some c) 1 0) cell (cells ++ replicate n None), sum_by-cons (λ (c : Option (List ℕ)). cond (is_some c) 1 0) cell cells, held_count-nones cells n)

module _ (old : Storage) (class : ℕ) (lt : class < length old.classes) where
  abbrev was : ClassState
  was = class_in old class

  abbrev paged : ClassState
  paged = record was { chunks = was.chunks ++ replicate was.per_page None; room = was.room - 1 }

  page_same : class_in (with_page old class) class ≡ paged
  page_same = get_or-set_same old.classes class paged no_class lt

  page_other : (other : ℕ) → other ≢ class → class_in (with_page old class) other ≡ class_in old other
  page_other other ne = get_or-set_other old.classes class other paged no_class ne

  page_counted : (c : ℕ) → held_count (chunks_in (with_page old class) c) ≡ held_count (chunks_in old c)
  page_counted c = elim (cases_eq c class) [
    | inl same ↦
        ap (λ k. held_count (chunks_in (with_page old class) k)) same ∙ ap (λ (k : ClassState). held_count k.chunks) page_same ∙ held_count-nones was.chunks was.per_page
        ∙ ap (λ k. held_count (chunks_in old k)) (sym same)
    | inr apart ↦ ap (λ (k : ClassState). held_count k.chunks) (page_other c apart)
  ]

  page_per_page : (c : ℕ) → (class_in (with_page old class) c).per_page ≡ (class_in old c).per_page
  page_per_page c = elim (cases_eq c class) [
    | inl same ↦ ap (λ k. (class_in (with_page old class) k).per_page) same ∙ ap (λ (k : ClassState). k.per_page) page_same ∙ ap (λ k. (class_in old k).per_page) (sym same)
    | inr apart ↦ ap (λ (k : ClassState). k.per_page) (page_other c apart)
  ]

  page_length : (c : ℕ) → length (chunks_in (with_page old class) c) ≡ length (chunks_in old c) + cond (nat_eq c class) (1 * was.per_page) 0
  page_length c = elim (cases_eq c class) [
    | inl same ↦
        let now : length (chunks_in (with_page old class) c) ≡ length (was.chunks ++ replicate was.per_page None) =
        ap (λ k. length (chunks_in (with_page old class) k)) same ∙ ap (λ (k : ClassState). length k.chunks) page_same in
        let long : length (was.chunks ++ replicate was.per_page None) ≡ length was.chunks + was.per_page =
        length-append was.chunks (replicate was.per_page None) ∙ ap (λ (n : ℕ). length was.chunks + n) (length-replicate was.per_page None) in
        let before : length was.chunks ≡ length (chunks_in old c) = ap (λ k. length (chunks_in old k)) (sym same) in
        let more : cond (nat_eq c class) (1 * was.per_page) 0 ≡ was.per_page = ap (λ b. cond {A = ℕ} b (1 * was.per_page) 0) (same_numbers c class same) ∙ omega arith in
        omega (arith, now, long, before, more)
    | inr apart ↦
        let now : length (chunks_in (with_page old class) c) ≡ length (chunks_in old c) = ap (λ (k : ClassState). length k.chunks) (page_other c apart) in
        let more : cond (nat_eq c class) (1 * was.per_page) 0 ≡ 0 = ap (λ b. cond {A = ℕ} b (1 * was.per_page) 0) (other_numbers c class apart) in
        omega (arith, now, more)
  ]

module _ (old : Storage) {new : Storage} (class : ℕ) {bytes : List ℕ} {chunk : Chunk} (put : IsPut (with_page old class) new class bytes chunk) where
  page_there : class < length old.classes
  page_there = omega (arith, class_there (with_page old class) class chunk.number None put.was_free, length-set old.classes class (record (class_in old class) { chunks = chunks_in old class ++ replicate (class_in old class).per_page None; room = (class_in old class).room - 1 }))

  pub puts-in_page : Puts old new class 1
  puts-in_page =
      let step = puts-in put in
      record {
        counted = λ c. step.counted c ∙ ap (λ (n : ℕ). n + cond (nat_eq c class) 1 0) (page_counted old class page_there c);
        per_page = λ c. step.per_page c ∙ page_per_page old class page_there c;
        long = λ c. ap (λ (s : Storage). length (chunks_in s c)) put.holds
            ∙ set_length (with_page old class) class (slice_set (chunks_in (with_page old class) class) chunk.number (Some bytes)) (class_there (with_page old class) class chunk.number None put.was_free) c (length-set (chunks_in (with_page old class) class) chunk.number (Some bytes))
            ∙ page_length old class page_there c;
        classes = step.classes ∙ length-set old.classes class (record (class_in old class) { chunks = chunks_in old class ++ replicate (class_in old class).per_page None; room = (class_in old class).room - 1 });
        spare = step.spare ∙ omega arith;
      }

-- a class of which no chunk is free holds something in each of them
pub all_held : (cells : List (Option (List ℕ))) → AllHeld cells → held_count cells ≡ length cells
all_held [] h = refl
all_held (None ∷ cells) h = absurd (h 0 refl)
all_held (Some b ∷ cells) h = omega (arith, sum_by-cons (λ (c : Option (List ℕ)). cond (is_some c) 1 0) (Some b) cells, all_held cells (λ n e. h (suc n) e))

held_count-most : (cells : List (Option (List ℕ))) → held_count cells ≤ length cells
held_count-most [] = omega arith
held_count-most (None ∷ cells) = omega (arith, sum_by-cons (λ (c : Option (List ℕ)). cond (is_some c) 1 0) None cells, held_count-most cells)
held_count-most (Some b ∷ cells) = omega (arith, sum_by-cons (λ (c : Option (List ℕ)). cond (is_some c) 1 0) (Some b) cells, held_count-most cells)

pub one_free : (cells : List (Option (List ℕ))) (number : ℕ) → slice_get cells number ≡ Some None → held_count cells < length cells
one_free [] number h = cc
one_free (cell ∷ cells) zero h = let same : cell ≡ None = cc in rw same (omega (arith, sum_by-cons (λ (c : Option (List ℕ)). cond (is_some c) 1 0) None cells, held_count-most cells))
one_free (None ∷ cells) (suc number) h = omega (arith, sum_by-cons (λ (c : Option (List ℕ)). cond (is_some c) 1 0) None cells, one_free cells number h)
one_free (Some b ∷ cells) (suc number) h = omega (arith, sum_by-cons (λ (c : Option (List ℕ)). cond (is_some c) 1 0) (Some b) cells, one_free cells number h)

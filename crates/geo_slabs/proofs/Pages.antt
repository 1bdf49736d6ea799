-- A page more for a class: its chunks are free.
use Rattle.std.proofs.Common.{◌≡◌, ℕ, zero, suc, ◌-◌, ◌<◌, ◌≤◌, List, [], ◌∷◌, ◌++◌, length, replicate, Option, Some, None, slice_get, slice_set, slice_index_or, refl, sym, ap, ◌∙◌, arith, subst, Vec, vec_capacity, length-append}
use Rattle.std.proofs.lemmas.List.{get_or-set_same, get_or_default, get_or_append_left}
use Rattle.std.proofs.lemmas.Nat.{pow_pos}
use Rattle.geo_slabs.specs.Chunks.{ClassState}
use Rattle.geo_slabs.specs.Chunks.{AllReserved}
use Rattle.geo_slabs.specs.Storage.{AllHeld, no_class, chunks_a_page}
use Rattle.std.specs.declared.alloc.Global.{Global}

chunk_free : {A : Type 0} (xs : List (Option A)) (n : ℕ) → 0 < n → slice_get (xs ++ replicate n None) (length xs) ≡ Some None
chunk_free [] zero lt = absurd (omega (arith, lt))
chunk_free [] (suc n) lt = refl
chunk_free (x ∷ xs) n lt = chunk_free xs n lt

-- a class that took a page has a free chunk
pub page_free : (classes : List ClassState) (class : ℕ) (old new : ClassState) → class < length classes → old ≡ slice_index_or classes class old → (slice_index_or classes class no_class).per_page ≡ chunks_a_page class
    → new.chunks ≡ old.chunks ++ replicate old.per_page None → AllHeld (slice_index_or (slice_set classes class new) class no_class).chunks → ⊥
page_free classes class old new lt at cut grown held =
    let same : slice_index_or classes class no_class ≡ old = get_or_default classes class no_class old lt ∙ sym at in
    let many : old.per_page ≡ chunks_a_page class = ap (λ (c : ClassState). c.per_page) (sym same) ∙ cut in
    let positive = pow_pos (14 - class) in
    let there : slice_index_or (slice_set classes class new) class no_class ≡ new = get_or-set_same classes class new no_class lt in
    held (length old.chunks) (ap (λ (c : ClassState). slice_get c.chunks (length old.chunks)) there ∙ ap (λ cs. slice_get cs (length old.chunks)) grown ∙ chunk_free old.chunks old.per_page (omega (arith, many, positive)))

-- the pages that are left have their memory
pub rest_reserved : (all rest : List (Vec ℕ Global)) (page : Vec ℕ Global) → all ≡ rest ++ page ∷ [] → AllReserved all → AllReserved rest
rest_reserved all rest page is reserved k d lt =
    subst (λ p. 1048576 ≤ vec_capacity p) (ap (λ ps. slice_index_or ps k d) is ∙ get_or_append_left rest (page ∷ []) d k lt)
    (reserved k d (omega (arith, lt, ap length is, length-append rest (page ∷ []))))

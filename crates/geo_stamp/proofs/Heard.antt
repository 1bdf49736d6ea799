-- Rows of vectors, one by one.
use Rattle.std.proofs.Common.{◌≡◌, ℕ, zero, suc, ◌+◌, ◌<◌, List, [], length, refl, ap, ◌∙◌, arith, get_or}
use Rattle.std.proofs.lemmas.List.{get_or-set_same, get_or-set_other}
use Rattle.geo_stamp.specs.Acks.{row_of, with_own}

pub row_more : (rows : List (List ℕ)) (at : ℕ) → row_of rows (at + 1) ≡ get_or rows at []
row_more rows at = ap (row_of rows) (let more : at + 1 ≡ suc at = omega arith in more)

pub with_own_here : (rows : List (List ℕ)) (own : ℕ) (v : List ℕ) (at : ℕ) → at + 1 ≡ own → at < length rows → get_or (with_own rows own v) at [] ≡ v
with_own_here rows zero v at e lt = absurd (omega (arith, e))
with_own_here rows (suc j) v at e lt =
    let same : j ≡ at = omega (arith, e) in
    ap (λ k. get_or (with_own rows (suc k) v) at []) same ∙ get_or-set_same rows at v [] lt

pub with_own_elsewhere : (rows : List (List ℕ)) (own : ℕ) (v : List ℕ) (at : ℕ) → (at + 1 ≡ own → ⊥) → get_or (with_own rows own v) at [] ≡ get_or rows at []
with_own_elsewhere rows zero v at other = refl
with_own_elsewhere rows (suc j) v at other = get_or-set_other rows j at v [] (λ e. other (let h : at + 1 ≡ suc j = omega (arith, e) in h))

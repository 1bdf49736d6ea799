-- The items of a connection up to its quit.
use Rattle.std.proofs.Common.{◌≡◌, ℕ, zero, suc, ◌+◌, ◌≤◌, true, false, cond, not, List, [], ◌∷◌, length, take, refl, ap, ◌∙◌, arith}
use Rattle.std.specs.List.{position_or_len}
use Rattle.geo_grammar.specs.declared.item.Item.{Item}
use Rattle.geo_grammar.specs.Quitting.{is_quit, until_quit}

-- they are those up to the first that is one
pub until_first : (items : List Item) → until_quit items ≡ take (suc (position_or_len is_quit items)) items
until_first [] = refl
until_first (item ∷ items) =
    let n = position_or_len is_quit items in
    let next : suc n ≡ 1 + n = omega arith in
    elim (is_quit item) as (λ t. item ∷ cond t [] (until_quit items) ≡ take (suc (cond (not t) (1 + n) 0)) (item ∷ items)) [
      | true ↦ refl
      | false ↦ ap (λ (x : List Item). item ∷ x) (until_first items ∙ ap (λ k. take k items) next)
    ]

take_all : {A : Type 0} (xs : List A) (n : ℕ) → length xs ≤ n → take n xs ≡ xs
take_all [] zero h = refl
take_all [] (suc n) h = refl
take_all (x ∷ xs) zero h = absurd (omega arith)
take_all (x ∷ xs) (suc n) h = ap (λ ys. x ∷ ys) (take_all xs n (omega arith))

-- where there is none they are all
pub until_none : (items : List Item) → length items ≤ position_or_len is_quit items → until_quit items ≡ items
until_none items h = until_first items ∙ take_all items (suc (position_or_len is_quit items)) (omega arith)

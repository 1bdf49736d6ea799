-- Sums of bytes, as far as they are counted.
use Rattle.std.proofs.Common.{◌≡◌, ℕ, ◌+◌, ◌<◌, List, length, take, get_or, sum_by, ap, ◌∙◌, arith}
use Rattle.std.proofs.lemmas.List.{take_all}
use Rattle.std.proofs.lemmas.List.Sums.{sum_by_more}
use Rattle.geo_history.specs.Sizes.{capped}

-- a sum goes on with one more of a list
pub sum_more : {X : Type 0} (f : X → ℕ) (xs : List X) (i : ℕ) (x : X) (base sum next size : ℕ) → i < length xs → x ≡ get_or xs i x → size ≡ f x
    → sum ≡ capped (base + sum_by f (take i xs)) → next ≡ capped (sum + size) → next ≡ capped (base + sum_by f (take (i + 1) xs))
sum_more f xs i x base sum next size here is sized before after =
    let more = sum_by_more f xs i x here in
    let there : size ≡ f (get_or xs i x) = sized ∙ ap f is in
    omega (arith, more, there, before, after)

-- and has gone through it
pub sum_all : {X : Type 0} (f : X → ℕ) (xs : List X) (i base sum : ℕ) → length xs ≡ i → sum ≡ capped (base + sum_by f (take i xs)) → sum ≡ capped (base + sum_by f xs)
sum_all f xs i base sum whole is = is ∙ ap (λ l. capped (base + sum_by f l)) (take_all i xs (omega (arith, whole)))

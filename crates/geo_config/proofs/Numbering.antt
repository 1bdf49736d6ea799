-- Sites that can be numbered in some order are numbered once they rise by their numbers.
use Rattle.std.proofs.Common.{ℕ, zero, suc, ◌+◌, ◌-◌, ◌≡◌, ◌<◌, ◌≤◌, List, length, get_or, arith, ap, ◌∙◌, subst, inl, inr}
use Rattle.std.specs.List.Sorted.{IsPermutation, IsNonDecreasingBy}
use Rattle.std.proofs.lemmas.Bool.{cases_lt}
use Rattle.std.proofs.lemmas.List.{get_or_default}
use Rattle.std.proofs.lemmas.List.Elements.{Contains-get_or}
use Rattle.std.proofs.lemmas.List.Sorted.{Contains-permutation, length_permutation}
use Rattle.geo_config.specs.declared.settings.SiteConfig.{SiteConfig}
use Rattle.geo_config.specs.Lawful.{AreNumbered}

-- each number from 1 to n is the value of f somewhere below n
abbrev HasAll : (ℕ → ℕ) → ℕ → Type 0
HasAll f n = (t : ℕ) → t < n → (i : ℕ) × (i < n) × (f i ≡ t + 1)

abbrev Rises : (ℕ → ℕ) → ℕ → Type 0
Rises f n = (i j : ℕ) → i ≤ j → j < n → f i ≤ f j

-- the lesser value stands before the greater one
before : (f : ℕ → ℕ) (n i j : ℕ) → Rises f n → j < n → f j < f i → j < i
before f n i j up within less = elim (cases_lt j i) [
  | inl lt ↦ lt
  | inr le ↦ let rises = up i j le within in absurd (omega (arith, rises, less))
]

-- the number t + 1 stands at t or later
late : (f : ℕ → ℕ) (n t i : ℕ) → Rises f n → HasAll f n → t < n → i < n → f i ≡ t + 1 → t ≤ i
late f n zero i up all below within is = omega arith
late f n (suc t) i up all below within is =
    let (j, here, found) = all t (omega arith) in
    let later = late f n t j up all (omega arith) here found in
    let order = before f n i j up here (omega (arith, is, found)) in
    omega (arith, later, order)

-- and, with m numbers above it, at least m places before the end
early : (f : ℕ → ℕ) (n m t i : ℕ) → Rises f n → HasAll f n → t + 1 + m ≡ n → i < n → f i ≡ t + 1 → i + m < n
early f n zero t i up all sum within is = omega arith
early f n (suc m) t i up all sum within is =
    let (j, here, found) = all (t + 1) (omega arith) in
    let after = early f n m (t + 1) j up all (omega arith) here found in
    let order = before f n j i up within (omega (arith, is, found)) in
    omega (arith, after, order)

-- a number of some order stands somewhere in each other order
stands : (ys zs : List SiteConfig) (d : SiteConfig) → IsPermutation ys zs → AreNumbered ys
    → HasAll (λ i. (get_or zs i d).number) (length zs)
stands ys zs d same numbered t below =
    let size = length_permutation ys zs same in
    let within : t < length ys = omega arith in
    let site = get_or ys t d in
    let (i, here, is) = Contains-permutation ys zs site same (Contains-get_or ys t d within) in
    (i, here, ap (λ s. s.number) (get_or_default zs i d site here ∙ is) ∙ numbered t d within)

pub numbered_once_sorted : (ys zs : List SiteConfig) → IsPermutation ys zs → IsNonDecreasingBy (λ s. s.number) zs
    → AreNumbered ys → AreNumbered zs
numbered_once_sorted ys zs same up numbered k d within =
    let f = λ (i : ℕ). (get_or zs i d).number in
    let rises : Rises f (length zs) = λ i j le lt. up i j d le lt in
    let all : HasAll f (length zs) = stands ys zs d same numbered in
    let (i, here, is) = all k within in
    let low = late f (length zs) k i rises all within here is in
    let high = early f (length zs) (length zs - (k + 1)) k i rises all (omega arith) here is in
    let place : i ≡ k = omega arith in
    subst (λ j. (get_or zs j d).number ≡ k + 1) place is

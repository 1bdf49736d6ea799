-- The last of so many first steps.
use Rattle.std.proofs.Common.{◌≡◌, ◌≤◌, ◌-◌, ℕ, zero, suc, List, [], ◌∷◌, ◌++◌, length, take, Option, None, Some, slice_get, option_copied, IfSome, IfNone, Bor, sym, ap, subst, arith}
use Rattle.geo_history.specs.declared.step.Step.{Step}

abbrev IsThere : Option Step → Type 0
IsThere None = ⊥
IsThere (Some s) = Unit {0}

abbrev step_or : Step → Option Step → Step
step_or d None = d
step_or d (Some s) = s

taken : (xs : List Step) (n : ℕ) (s : Step) → slice_get xs n ≡ Some s → take (suc n) xs ≡ take n xs ++ s ∷ []
taken [] n s e = absurd (subst IsThere (sym e) tt)
taken (x ∷ xs) zero s e = ap (λ (o : Option Step). step_or s o ∷ []) e
taken (x ∷ xs) (suc n) s e = ap (λ l. x ∷ l) (taken xs n s e)

past : (xs : List Step) (n : ℕ) → slice_get xs n ≡ None → length xs ≤ n
past [] n e = omega arith
past (x ∷ xs) zero e = absurd (subst IsThere e tt)
past (x ∷ xs) (suc n) e = let h = past xs n e in omega (arith, h)

pub some_last : (xs : List Step) (count : ℕ) (found : Option (Bor Step)) → 1 ≤ count → option_copied found ≡ slice_get xs (count - 1) → IfSome found (λ step. (1 ≤ count) × (take count xs ≡ take (count - 1) xs ++ step.now ∷ []))
some_last xs count None h e = tt
some_last xs count (Some step) h e = (h, subst (λ n. take n xs ≡ take (count - 1) xs ++ step.now ∷ []) before (taken xs (count - 1) step.now (sym e)))
  where
    before : suc (count - 1) ≡ count
    before = omega (arith, h)

pub none_last : (xs : List Step) (count : ℕ) (found : Option (Bor Step)) → count ≤ length xs → 1 ≤ count → option_copied found ≡ slice_get xs (count - 1) → IfNone found (count ≡ 0)
none_last xs count None few h e = let p = past xs (count - 1) (sym e) in absurd (omega (arith, p, few, h))
none_last xs count (Some step) few h e = tt

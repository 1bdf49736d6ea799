-- Keys of which bytes are missing.
use Rattle.std.proofs.Common.{◌≡◌, ℕ, ◌≤◌, zero, suc, true, length, arith, List, [], ◌∷◌, Option, None, Some, Result, Ok, Err, IfOk, sym, subst, ap, ◌∙◌}
use Rattle.std.specs.Prelude.{slice_get}
use Rattle.geo_site.specs.Machine.{SiteState}
use Rattle.geo_site.specs.Fills.{AreFirstMissing, is_missing}

some_same : {A : Type 0} {x y : A} → Some x ≡ Some y → x ≡ y
some_same h = cc

-- each of the first is missing
pub each_missing : (st : SiteState) (now : ℕ) (after : Option (List ℕ)) (most : ℕ) (keys : List (List ℕ)) → AreFirstMissing st now after most keys
    → (at : ℕ) (q : List ℕ) → slice_get keys at ≡ Some q → is_missing st now q ≡ true
each_missing st now after zero keys h at q is = absurd (none_in keys h at is)
  where
    none_in : (keys : List (List ℕ)) → keys ≡ [] → (at : ℕ) → slice_get keys at ≡ Some q → ⊥
    none_in [] h at is = cc
    none_in (k ∷ keys) h at is = cc
each_missing st now after (suc most) [] h at q is = cc
each_missing st now after (suc most) (k ∷ keys) h zero q is = subst (λ x. is_missing st now x ≡ true) (some_same is) h.0.1
each_missing st now after (suc most) (k ∷ keys) h (suc at) q is = each_missing st now (Some k) most keys h.1 at q is

-- they are so many at most
pub few_first : (st : SiteState) (now : ℕ) (after : Option (List ℕ)) (most : ℕ) (keys : List (List ℕ)) → AreFirstMissing st now after most keys → length keys ≤ most
few_first st now after zero keys h = let none : length keys ≡ 0 = ap length h in omega (arith, none)
few_first st now after (suc most) [] h = omega arith
few_first st now after (suc most) (k ∷ keys) h = let rest = few_first st now (Some k) most keys h.1 in omega (arith, rest)

-- what is as many as something else is no more than that is
pub as_many : {T E : Type 0} (r : Result T E) (size : T → ℕ) (n most : ℕ) → IfOk r (λ x. size x ≡ n) → n ≤ most → IfOk r (λ x. size x ≤ most)
as_many (Ok x) size n most same le = omega (arith, same, le)
as_many (Err e) size n most same le = same

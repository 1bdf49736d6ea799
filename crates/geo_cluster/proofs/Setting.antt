-- What sites are told at their start.
use Rattle.std.proofs.Common.{◌≡◌, ℕ, ◌+◌, ◌≤◌, ◌==◌, Bool, true, false, ◌&&◌, nat_le, List, [], ◌∷◌, ◌++◌, length, refl, ap, subst, ◌∙◌, arith}
use Rattle.std.proofs.lemmas.Bool.Decides.{nat_tests}
use Rattle.geo_site.specs.declared.setup.Setup.{Setup}
use Rattle.geo_world.specs.Setups.{is_setup, are_numbered, are_setups}
use Rattle.geo_world.specs.There.{is_site}
use Rattle.geo_cluster.specs.Effects.{IsTold, AreTold}

-- one more
pub told_more : (n sites pages most reap : ℕ) (setups : List Setup) (setup : Setup) → AreTold n sites pages most reap setups → IsTold (n + length setups) sites pages most reap setup → AreTold n sites pages most reap (setups ++ setup ∷ [])
told_more n sites pages most reap [] setup h is = let e : n + 0 ≡ n = omega arith in (subst (λ k. IsTold k sites pages most reap setup) e is, tt)
told_more n sites pages most reap (s ∷ ss) setup h is =
    let e : n + length (s ∷ ss) ≡ n + 1 + length ss = omega arith in
    (h.0, told_more (n + 1) sites pages most reap ss setup h.1 (subst (λ k. IsTold k sites pages most reap setup) e is))

eq-self : (n : ℕ) → (n == n) ≡ true
eq-self n = grind (arith, nat_tests)

le-true : (a b : ℕ) → a ≤ b → nat_le a b ≡ true
le-true a b h = grind (arith, nat_tests)

and-true : (a b : Bool) → a ≡ true → b ≡ true → a && b ≡ true
and-true a b h k = ap (λ x. x && b) h ∙ k

is_good : (n sites pages most reap : ℕ) (x : Setup) → 15 ≤ pages → pages ≤ 65536 → 1 ≤ most → most ≤ 1000000 → IsTold n sites pages most reap x → is_setup sites n x ≡ true
is_good n sites pages most reap x a b c d h =
    and-true _ _ (and-true _ _ (and-true _ _ (and-true _ _ (and-true _ _ (ap (λ k. k == n) h.site ∙ eq-self n) (ap (λ k. k == sites) h.sites_are ∙ eq-self sites))
    (ap (λ k. nat_le 15 k) h.pages_are ∙ le-true 15 pages a)) (ap (λ k. nat_le k 65536) h.pages_are ∙ le-true pages 65536 b)) (ap (λ k. nat_le 1 k) h.most_is ∙ le-true 1 most c)) (ap (λ k. nat_le k 1000000) h.most_is ∙ le-true most 1000000 d)

are_good : (n sites pages most reap : ℕ) (xs : List Setup) → 15 ≤ pages → pages ≤ 65536 → 1 ≤ most → most ≤ 1000000 → AreTold n sites pages most reap xs → are_numbered sites n xs ≡ true
are_good n sites pages most reap [] a b c d h = refl
are_good n sites pages most reap (x ∷ xs) a b c d h = and-true _ _ (is_good n sites pages most reap x a b c d h.0) (are_good (n + 1) sites pages most reap xs a b c d h.1)

pub is_there : (n s : ℕ) → 1 ≤ s → s ≤ n → is_site n s ≡ true
is_there n s a b = and-true (nat_le 1 s) (nat_le s n) (le-true 1 s a) (le-true s n b)

pub not_true : (b : Bool) → (b ≡ true → ⊥) → b ≡ false
not_true true h = absurd (h refl)
not_true false h = refl

-- a world opens by them
pub told_good : (sites pages most reap : ℕ) (xs : List Setup) → 1 ≤ sites → sites ≤ 16 → 15 ≤ pages → pages ≤ 65536 → 1 ≤ most → most ≤ 1000000 → length xs ≡ sites → AreTold 1 sites pages most reap xs → are_setups xs ≡ true
told_good sites pages most reap xs first last a b c d many h =
    and-true _ _ (and-true _ _ (le-true 1 (length xs) (omega (arith, many))) (le-true (length xs) 16 (omega (arith, many))))
    (ap (λ k. are_numbered k 1 xs) many ∙ are_good 1 sites pages most reap xs a b c d h)

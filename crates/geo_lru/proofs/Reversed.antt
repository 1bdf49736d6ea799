-- A sum over a list is one over the list reversed.
use Rattle.std.proofs.Common.{◌≡◌, ℕ, ◌+◌, List, [], ◌∷◌, ◌++◌, map, reverse, refl, arith}
use Rattle.std.proofs.lemmas.List.{reverse-append}
use Rattle.std.proofs.lemmas.List.Sums.{sum_by-cons}
use Rattle.std.specs.List.{sum_by}

module _ {X Y : Type 0} (f : Y → ℕ) (g : X → Y) where
  sum_by-push : (xs : List X) (y : X) → sum_by f (map g (xs ++ y ∷ [])) ≡ sum_by f (map g xs) + f (g y)
  sum_by-push [] y = omega (arith, sum_by-cons f (g y) [])
  sum_by-push (x ∷ xs) y = omega (arith, sum_by-cons f (g x) (map g (xs ++ y ∷ [])), sum_by-cons f (g x) (map g xs), sum_by-push xs y)

  pub sum_by-reverse : (xs : List X) → sum_by f (map g (reverse xs)) ≡ sum_by f (map g xs)
  sum_by-reverse [] = refl
  sum_by-reverse (x ∷ xs) = rw (reverse-append (x ∷ []) xs) (omega (arith, sum_by-push (reverse xs) x, sum_by-reverse xs, sum_by-cons f (g x) (map g xs)))

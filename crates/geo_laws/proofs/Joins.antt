-- Joining vectors is associative, commutative and idempotent.
use Rattle.std.specs.Prelude.{◌≡◌, ℕ, max, List, [], ◌∷◌, refl}
use Rattle.std.proofs.Common.{arith}
use Rattle.geo_laws.specs.Vectors.{vector_joined}

pub joined_assoc : (a b c : List ℕ) → vector_joined a (vector_joined b c) ≡ vector_joined (vector_joined a b) c
joined_assoc [] b c = refl
joined_assoc (x ∷ xs) [] c = refl
joined_assoc (x ∷ xs) (y ∷ ys) [] = refl
joined_assoc (x ∷ xs) (y ∷ ys) (z ∷ zs) = let h : max x (max y z) ≡ max (max x y) z = omega arith in λ i. h i ∷ joined_assoc xs ys zs i

pub joined_comm : (a b : List ℕ) → vector_joined a b ≡ vector_joined b a
joined_comm [] [] = refl
joined_comm [] (y ∷ ys) = refl
joined_comm (x ∷ xs) [] = refl
joined_comm (x ∷ xs) (y ∷ ys) = let h : max x y ≡ max y x = omega arith in λ i. h i ∷ joined_comm xs ys i

pub joined_same : (a : List ℕ) → vector_joined a a ≡ a
joined_same [] = refl
joined_same (x ∷ xs) = let h : max x x ≡ x = omega arith in λ i. h i ∷ joined_same xs i

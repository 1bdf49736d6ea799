-- The union of sets is associative, commutative and idempotent: laws of a lattice, which may cite no proof of its own crate.
use Rattle.std.specs.Prelude.{◌≡◌, Bool, true, false, ◌||◌, List, [], ◌∷◌, refl}
use Rattle.geo_stamp.specs.Retired.{set_joined}

either_assoc : (x y z : Bool) → (x || (y || z)) ≡ ((x || y) || z)
either_assoc true y z = refl
either_assoc false y z = refl

either_comm : (x y : Bool) → (x || y) ≡ (y || x)
either_comm true true = refl
either_comm true false = refl
either_comm false true = refl
either_comm false false = refl

either_same : (x : Bool) → (x || x) ≡ x
either_same true = refl
either_same false = refl

pub sets_assoc : (a b c : List Bool) → set_joined a (set_joined b c) ≡ set_joined (set_joined a b) c
sets_assoc [] b c = refl
sets_assoc (x ∷ xs) [] c = refl
sets_assoc (x ∷ xs) (y ∷ ys) [] = refl
sets_assoc (x ∷ xs) (y ∷ ys) (z ∷ zs) = λ i. either_assoc x y z i ∷ sets_assoc xs ys zs i

pub sets_comm : (a b : List Bool) → set_joined a b ≡ set_joined b a
sets_comm [] [] = refl
sets_comm [] (y ∷ ys) = refl
sets_comm (x ∷ xs) [] = refl
sets_comm (x ∷ xs) (y ∷ ys) = λ i. either_comm x y i ∷ sets_comm xs ys i

pub sets_same : (a : List Bool) → set_joined a a ≡ a
sets_same [] = refl
sets_same (x ∷ xs) = λ i. either_same x i ∷ sets_same xs i

-- The join of vectors of clocks.
use Rattle.std.specs.Prelude.{ℕ, max, List, [], ◌∷◌}

-- the greater of both at each site
abbrev pub vector_joined : List ℕ → List ℕ → List ℕ
vector_joined [] ys = ys
vector_joined (x ∷ xs) [] = x ∷ xs
vector_joined (x ∷ xs) (y ∷ ys) = max x y ∷ vector_joined xs ys

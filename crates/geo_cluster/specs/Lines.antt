-- The lines of a script.
use Rattle.std.specs.Prelude.{ℕ, ◌==◌, List, [], ◌∷◌, ◌++◌, if◌then◌else◌}

-- the lines that end in a text which comes behind the beginning of a line, and what stands behind the last line end
abbrev pub ended_in : List ℕ → List ℕ → List (List ℕ)
ended_in begun [] = []
ended_in begun (b ∷ bs) = if b == 10 then begun ∷ ended_in [] bs else ended_in (begun ++ b ∷ []) bs

abbrev pub left_in : List ℕ → List ℕ → List ℕ
left_in begun [] = begun
left_in begun (b ∷ bs) = if b == 10 then left_in [] bs else left_in (begun ++ b ∷ []) bs

-- what stands behind the last line end is a line where anything stands there
abbrev pub last_line : List ℕ → List (List ℕ)
last_line [] = []
last_line (b ∷ bs) = (b ∷ bs) ∷ []

-- the lines of a text
abbrev pub lines_of : List ℕ → List (List ℕ)
lines_of text = ended_in [] text ++ last_line (left_in [] text)

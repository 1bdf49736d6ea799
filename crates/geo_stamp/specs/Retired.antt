-- Sets of sites that are gone for good: whether site j is in one stands at index j - 1.
use Rattle.std.specs.Prelude.{ℕ, zero, suc, ◌+◌, ◌*◌, ◌/◌, ◌%◌, ◌==◌, if◌then◌else◌, Bool, true, false, not, ◌&&◌, ◌||◌, List, [], ◌∷◌, slice_index_or, slice_set, replicate}

-- none is
abbrev pub no_sites : List Bool
no_sites = replicate 16 false

abbrev pub is_in : List Bool → ℕ → Bool
is_in set zero = false
is_in set (suc j) = slice_index_or set j false

-- what is in either
abbrev pub set_joined : List Bool → List Bool → List Bool
set_joined [] ys = ys
set_joined (x ∷ xs) [] = x ∷ xs
set_joined (x ∷ xs) (y ∷ ys) = (x || y) ∷ set_joined xs ys

-- one site more
abbrev pub with_site : List Bool → ℕ → List Bool
with_site set zero = set
with_site set (suc j) = slice_set set j true

-- no site past so many is in it
abbrev pub set_fits : ℕ → List Bool → Bool
set_fits n [] = true
set_fits zero (x ∷ xs) = not x && set_fits zero xs
set_fits (suc n) (x ∷ xs) = set_fits n xs

-- a set as a number: the bit of worth 2 ^ (j - 1) stands for site j
unfoldable pub set_bits : List Bool → ℕ
set_bits [] = 0
set_bits (x ∷ xs) = (if x then 1 else 0) + 2 * set_bits xs

-- the set of so many sites that a number stands for
unfoldable pub bits_set : ℕ → ℕ → List Bool
bits_set zero bits = []
bits_set (suc n) bits = (bits % 2 == 1) ∷ bits_set n (bits / 2)

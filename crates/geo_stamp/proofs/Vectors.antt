-- Vectors, entry by entry.
use Rattle.std.proofs.Common.{◌≡◌, ℕ, zero, suc, ◌+◌, ◌≤◌, ◌<◌, max, min, List, [], ◌∷◌, ◌++◌, length, take, refl, ap, ◌∙◌, arith, get_or}
use Rattle.std.proofs.lemmas.List.{take_more}
use Rattle.geo_stamp.specs.Vectors.{zeros, greatest_of, least_of}

-- the greatest of one entry more
pub greatest_append : (xs : List ℕ) (x : ℕ) → greatest_of (xs ++ x ∷ []) ≡ max (greatest_of xs) x
greatest_append [] x = omega arith
greatest_append (y ∷ xs) x = let h = greatest_append xs x in omega (arith, h)

pub greatest_more : (xs : List ℕ) (i : ℕ) → i < length xs → greatest_of (take (i + 1) xs) ≡ max (greatest_of (take i xs)) (get_or xs i 0)
greatest_more xs i lt = ap greatest_of (take_more xs i 0 lt) ∙ greatest_append (take i xs) (get_or xs i 0)

-- and the least of one more
pub least_append : (xs : List ℕ) (x : ℕ) → least_of (xs ++ x ∷ []) ≡ min (least_of xs) x
least_append [] x = omega arith
least_append (y ∷ xs) x = let h = least_append xs x in omega (arith, h)

pub least_more : (xs : List ℕ) (i : ℕ) → i < length xs → least_of (take (i + 1) xs) ≡ min (least_of (take i xs)) (get_or xs i 0)
least_more xs i lt = ap least_of (take_more xs i 0 lt) ∙ least_append (take i xs) (get_or xs i 0)

-- so many of 16 zeros
pub zeros_taken : (n m : ℕ) → n ≤ m → take n (zeros m) ≡ zeros n
zeros_taken zero m le = refl
zeros_taken (suc n) zero le = absurd (omega arith)
zeros_taken (suc n) (suc m) le = ap (λ xs. 0 ∷ xs) (zeros_taken n m (omega arith))

-- of a list whose entries are bounded, so are those of its front
pub taken_at_most : (xs : List ℕ) (top : ℕ) → ((k : ℕ) → get_or xs k 0 ≤ top) → (n k : ℕ) → get_or (take n xs) k 0 ≤ top
taken_at_most xs top h zero k = omega arith
taken_at_most [] top h (suc n) k = h k
taken_at_most (x ∷ xs) top h (suc n) zero = h 0
taken_at_most (x ∷ xs) top h (suc n) (suc k) = taken_at_most xs top (λ j. h (suc j)) n k

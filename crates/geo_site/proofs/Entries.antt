-- Vectors entry by entry, as they are joined and raised.
use Rattle.std.proofs.Common.{◌≡◌, ◌≢◌, ℕ, zero, suc, ◌≤◌, ◌<◌, max, List, [], ◌∷◌, length, refl, sym, ap, subst, inl, inr, arith, slice_index, slice_set, get_or-set_same, get_or-set_other}
use Rattle.std.proofs.lemmas.Bool.{cases_eq}
use Rattle.std.proofs.lemmas.List.{length-set}
use Rattle.geo_stamp.specs.Vectors.{entry_of, zeros, vector_joined, greatest_of, raised}

pub zeros_length : (n : ℕ) → length (zeros n) ≡ n
zeros_length zero = refl
zeros_length (suc n) = let h = zeros_length n in omega (arith, h)

pub index_joined : (xs ys : List ℕ) (k : ℕ) → slice_index (vector_joined xs ys) k ≡ max (slice_index xs k) (slice_index ys k)
index_joined [] ys k = omega arith
index_joined (x ∷ xs) [] k = omega arith
index_joined (x ∷ xs) (y ∷ ys) zero = refl
index_joined (x ∷ xs) (y ∷ ys) (suc k) = index_joined xs ys k

pub entry_joined : (xs ys : List ℕ) (j : ℕ) → entry_of (vector_joined xs ys) j ≡ max (entry_of xs j) (entry_of ys j)
entry_joined xs ys zero = omega arith
entry_joined xs ys (suc k) = index_joined xs ys k

pub length_joined : (xs ys : List ℕ) → length xs ≡ length ys → length (vector_joined xs ys) ≡ length xs
length_joined [] ys e = sym e
length_joined (x ∷ xs) [] e = refl
length_joined (x ∷ xs) (y ∷ ys) e = let h = length_joined xs ys (omega arith) in omega (arith, h)

pub greatest_joined : (xs ys : List ℕ) → greatest_of (vector_joined xs ys) ≡ max (greatest_of xs) (greatest_of ys)
greatest_joined [] ys = omega arith
greatest_joined (x ∷ xs) [] = omega arith
greatest_joined (x ∷ xs) (y ∷ ys) = let h = greatest_joined xs ys in omega (arith, h)

pub index_at_most : (xs : List ℕ) (k : ℕ) → slice_index xs k ≤ greatest_of xs
index_at_most [] k = omega arith
index_at_most (x ∷ xs) zero = omega arith
index_at_most (x ∷ xs) (suc k) = let h = index_at_most xs k in omega (arith, h)

pub entry_at_most : (xs : List ℕ) (j : ℕ) → entry_of xs j ≤ greatest_of xs
entry_at_most xs zero = omega arith
entry_at_most xs (suc k) = index_at_most xs k

greatest_set : (xs : List ℕ) (k v : ℕ) → k < length xs → slice_index xs k ≤ v → greatest_of (slice_set xs k v) ≡ max (greatest_of xs) v
greatest_set [] k v lt le = absurd (omega arith)
greatest_set (x ∷ xs) zero v lt le = omega arith
greatest_set (x ∷ xs) (suc k) v lt le = let h = greatest_set xs k v (omega arith) le in omega (arith, h)

-- an entry of a site that there is
pub record Within (xs : List ℕ) (j : ℕ) : Type 0 where
  pub above : 1 ≤ j
  pub below : j ≤ length xs

pub greatest_raised : (xs : List ℕ) (j t : ℕ) → Within xs j → greatest_of (raised xs j t) ≡ max (greatest_of xs) t
greatest_raised xs zero t in_range = absurd (let h = in_range.above in omega arith)
greatest_raised xs (suc k) t in_range =
    let h = in_range.below in
    let m = greatest_set xs k (max (slice_index xs k) t) (omega arith) (omega arith) in
    let l = index_at_most xs k in
    omega (arith, m, l)

pub length_raised : (xs : List ℕ) (j t : ℕ) → length (raised xs j t) ≡ length xs
length_raised xs zero t = refl
length_raised xs (suc k) t = length-set xs k (max (slice_index xs k) t)

pub entry_raised : (xs : List ℕ) (j t : ℕ) → Within xs j → entry_of (raised xs j t) j ≡ max (entry_of xs j) t
entry_raised xs zero t in_range = absurd (let h = in_range.above in omega arith)
entry_raised xs (suc k) t in_range = let h = in_range.below in let lt : k < length xs = omega arith in get_or-set_same xs k (max (slice_index xs k) t) 0 lt

pub entry_stays : (xs : List ℕ) (j t i : ℕ) → i ≢ j → entry_of (raised xs j t) i ≡ entry_of xs i
entry_stays xs zero t i ne = refl
entry_stays xs (suc k) t zero ne = refl
entry_stays xs (suc k) t (suc i) ne = let e : i ≢ k = λ p. ne (ap suc p) in get_or-set_other xs k i (max (slice_index xs k) t) 0 e

-- raising one entry lowers none
pub entry_rises : (xs : List ℕ) (j t i : ℕ) → Within xs j → entry_of xs i ≤ entry_of (raised xs j t) i
entry_rises xs j t i in_range = elim (cases_eq i j) [
  | inl e ↦ subst (λ i. entry_of xs i ≤ entry_of (raised xs j t) i) (sym e) (let h = entry_raised xs j t in_range in omega (arith, h))
  | inr ne ↦ let h = entry_stays xs j t i ne in omega (arith, h)
]

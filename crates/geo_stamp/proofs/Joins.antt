-- Joining vectors goes entry by entry.
use Rattle.std.proofs.Common.{◌≡◌, ℕ, zero, suc, ◌≤◌, ◌<◌, max, List, [], ◌∷◌, length, take, refl, sym, ap, ◌∙◌, ◌+◌, arith, get_or, inl, inr}
use Rattle.std.proofs.lemmas.Bool.{cases_lt}
use Rattle.std.proofs.lemmas.List.{ext_get_or, length-take}
use Rattle.geo_stamp.specs.Vectors.{entry_of, vector_joined, IsVector}

pub index_joined : (xs ys : List ℕ) (k : ℕ) → get_or (vector_joined xs ys) k 0 ≡ max (get_or xs k 0) (get_or ys k 0)
index_joined [] ys k = omega arith
index_joined (x ∷ xs) [] k = omega arith
index_joined (x ∷ xs) (y ∷ ys) zero = refl
index_joined (x ∷ xs) (y ∷ ys) (suc k) = index_joined xs ys k

pub length_joined : (xs ys : List ℕ) → length (vector_joined xs ys) ≡ max (length xs) (length ys)
length_joined [] ys = omega arith
length_joined (x ∷ xs) [] = omega arith
length_joined (x ∷ xs) (y ∷ ys) = let h = length_joined xs ys in omega (arith, h)

-- what is past the sites is 0, so the front reads as the whole
pub front_reads : (n : ℕ) (xs : List ℕ) → ((k : ℕ) → n ≤ k → get_or xs k 0 ≡ 0) → (k : ℕ) → get_or (take n xs) k 0 ≡ get_or xs k 0
front_reads zero xs h k = sym (h k (omega arith))
front_reads (suc n) [] h k = refl
front_reads (suc n) (x ∷ xs) h zero = refl
front_reads (suc n) (x ∷ xs) h (suc k) = front_reads n xs (λ j le. h (suc j) (omega arith)) k

pub entry_reads : (n : ℕ) (xs v : List ℕ) → take n xs ≡ v → IsVector xs n → (at : ℕ) → entry_of v (at + 1) ≡ get_or xs at 0
entry_reads n xs v is h at = ap (entry_of v) (let more : at + 1 ≡ suc at = omega arith in more) ∙ ap (λ (v : List ℕ). get_or v at 0) (sym is) ∙ front_reads n xs h.rest at

pub front_length : (n : ℕ) (xs : List ℕ) → n ≤ length xs → length (take n xs) ≡ n
front_length n xs le = let h = length-take n xs in omega (arith, h)

-- entries that are the greater of both are the join
pub joined_fronts : (n m p : ℕ) (xs ys zs : List ℕ) → IsVector xs n → IsVector ys m → length zs ≡ 16 → p ≡ max n m → ((k : ℕ) → get_or zs k 0 ≡ max (get_or xs k 0) (get_or ys k 0))
    → take p zs ≡ vector_joined (take n xs) (take m ys)
joined_fronts n m p xs ys zs a b len is each =
    let nf = a.fits in
    let mf = b.fits in
    let ln = front_length n xs (let q = a.many in omega (arith, q, nf)) in
    let lm = front_length m ys (let q = b.many in omega (arith, q, mf)) in
    let lp = front_length p zs (omega (arith, len, is, nf, mf)) in
    let lj = length_joined (take n xs) (take m ys) in
    ext_get_or 0 (take p zs) (vector_joined (take n xs) (take m ys)) (omega (arith, lp, lj, ln, lm, is))
    (λ k lt.
    let z0 = front_reads p zs (λ j le. let e = each j in let u = a.rest j (omega (arith, is, le)) in let v = b.rest j (omega (arith, is, le)) in omega (arith, e, u, v)) k in
    let x0 = front_reads n xs a.rest k in
    let y0 = front_reads m ys b.rest k in
    let e = each k in
    let j = index_joined (take n xs) (take m ys) k in
    omega (arith, z0, x0, y0, e, j))

-- after 16 entries each is the greater of both
pub all_joined : (n m i : ℕ) (xs ys zs : List ℕ) → IsVector xs n → IsVector ys m → 16 ≤ i
    → ((k : ℕ) → k < i → get_or zs k 0 ≡ max (get_or xs k 0) (get_or ys k 0)) → ((k : ℕ) → i ≤ k → get_or zs k 0 ≡ get_or xs k 0)
    → (k : ℕ) → get_or zs k 0 ≡ max (get_or xs k 0) (get_or ys k 0)
all_joined n m i xs ys zs a b le done rest k = elim (cases_lt k i) [
  | inl lt ↦ done k lt
  | inr ge ↦ let r = rest k ge in let f = b.fits in let z = b.rest k (omega arith) in omega (arith, r, z)
]

pub joined_is_vector : (n m p : ℕ) (xs ys zs : List ℕ) → IsVector xs n → IsVector ys m → length zs ≡ 16 → p ≡ max n m → ((k : ℕ) → get_or zs k 0 ≡ max (get_or xs k 0) (get_or ys k 0)) → IsVector zs p
joined_is_vector n m p xs ys zs a b len is each = record {
  many = len;
  fits = let x = a.fits in let y = b.fits in omega (arith, x, y, is);
  rest = λ k le. let e = each k in let x = a.rest k (omega (arith, is, le)) in let y = b.rest k (omega (arith, is, le)) in omega (arith, e, x, y);
  range = λ k. let e = each k in let x = a.range k in let y = b.range k in omega (arith, e, x, y);
}

-- a vector covers another where it has as many entries and none is lower
pub covers_entries : (n m : ℕ) (xs ys : List ℕ) → IsVector xs n → IsVector ys m → m ≤ n → ((k : ℕ) → k < 16 → get_or ys k 0 ≤ get_or xs k 0) → vector_joined (take n xs) (take m ys) ≡ take n xs
covers_entries n m xs ys a b le below =
    sym (joined_fronts n m n xs ys xs a b a.many (omega arith)
    (λ k. elim (cases_lt k 16) [
      | inl lt ↦ let h = below k lt in omega (arith, h)
      | inr ge ↦ let f = b.fits in let z = b.rest k (omega arith) in omega (arith, z)
    ]))

pub covered_entry : (n m k : ℕ) (xs ys : List ℕ) → IsVector xs n → IsVector ys m → vector_joined (take n xs) (take m ys) ≡ take n xs → get_or ys k 0 ≤ get_or xs k 0
covered_entry n m k xs ys a b e =
    let j = index_joined (take n xs) (take m ys) k in
    let x = front_reads n xs a.rest k in
    let y = front_reads m ys b.rest k in
    let r = ap (λ zs. get_or zs k 0) e in
    omega (arith, j, x, y, r)

pub covered_length : (n m : ℕ) (xs ys : List ℕ) → IsVector xs n → IsVector ys m → vector_joined (take n xs) (take m ys) ≡ take n xs → m ≤ n
covered_length n m xs ys a b e =
    let l = length_joined (take n xs) (take m ys) in
    let x = a.many in
    let y = b.many in
    let f = a.fits in
    let g = b.fits in
    let ln = front_length n xs (omega arith) in
    let lm = front_length m ys (omega arith) in
    let r = ap length e in
    omega (arith, l, ln, lm, r)

-- Sets of sites, one by one.
use Rattle.std.proofs.Common.{◌≡◌, ◌≢◌, ◌++◌, take, set, true≢false, ℕ, zero, suc, ◌+◌, ◌-◌, drop, inl, inr, ◌≤◌, ◌*◌, ◌/◌, ◌%◌, ◌^◌, ◌==◌, ◌<◌, max, cond, Bool, true, false, not, ◌&&◌, ◌||◌, List, [], ◌∷◌, length, replicate, refl, sym, ap, subst, ◌∙◌, arith, get_or}
use Rattle.std.proofs.lemmas.List.{ext_get_or, get_or-set_same, get_or-set_other, get_or_past, drop_all, drop_more, length-drop, take_all, take_more_set, append_assoc, append-nil}
use Rattle.std.proofs.Math.Nat.{pow-succ'}
use Rattle.std.proofs.lemmas.Nat.{pow_pos}
use Rattle.std.proofs.lemmas.Bool.{cases_eq, cases_lt}
use Rattle.std.proofs.lemmas.Bool.Decides.{nat_tests}
use Rattle.geo_stamp.specs.Retired.{no_sites, is_in, with_site, set_fits, set_joined, set_bits, bits_set}

-- a set fits where no site past the number is in it
pub fits_of : (n : ℕ) (xs : List Bool) → ((k : ℕ) → n ≤ k → get_or xs k false ≡ false) → set_fits n xs ≡ true
fits_of n [] h = refl
fits_of zero (x ∷ xs) h = let e : x ≡ false = h 0 (omega arith) in λ i. not (e i) && fits_of zero xs (λ k le. h (suc k) (omega arith)) i
fits_of (suc n) (x ∷ xs) h = fits_of n xs (λ k le. h (suc k) (omega arith))

pub past_fits : (n : ℕ) (xs : List Bool) → set_fits n xs ≡ true → (k : ℕ) → n ≤ k → get_or xs k false ≡ false
past_fits n [] e k le = refl
past_fits zero (true ∷ xs) e k le = cc
past_fits zero (false ∷ xs) e zero le = refl
past_fits zero (false ∷ xs) e (suc k) le = past_fits zero xs e k (omega arith)
past_fits (suc n) (x ∷ xs) e zero le = absurd (omega arith)
past_fits (suc n) (x ∷ xs) e (suc k) le = past_fits n xs e k (omega arith)

pub not_fits : (n : ℕ) (xs : List Bool) (k : ℕ) → n ≤ k → get_or xs k false ≡ true → set_fits n xs ≡ false
not_fits n xs k le e = by (set_fits n xs) refl
  where
    by : (t : Bool) → set_fits n xs ≡ t → t ≡ false
    by true h = absurd (true≢false (sym e ∙ past_fits n xs h k le))
    by false h = refl

pub none_in : (xs : List Bool) → set_fits 0 xs ≡ true → (site : ℕ) → is_in xs site ≡ false
none_in xs e zero = refl
none_in xs e (suc j) = past_fits 0 xs e j (omega arith)

pub fits_none : (n : ℕ) → set_fits n no_sites ≡ true
fits_none n = fits_of n no_sites (λ k le. none 16 k)
  where
    none : (m k : ℕ) → get_or (replicate m false) k false ≡ false
    none zero k = refl
    none (suc m) zero = refl
    none (suc m) (suc k) = none m k

or_false : (x : Bool) → x ≡ (x || false)
or_false true = refl
or_false false = refl

-- what is in either is in the union
pub sets_read : (xs ys : List Bool) (k : ℕ) → get_or (set_joined xs ys) k false ≡ (get_or xs k false || get_or ys k false)
sets_read [] ys k = refl
sets_read (x ∷ xs) [] k = or_false (get_or (x ∷ xs) k false)
sets_read (x ∷ xs) (y ∷ ys) zero = refl
sets_read (x ∷ xs) (y ∷ ys) (suc k) = sets_read xs ys k

pub sets_length : (xs ys : List Bool) → length (set_joined xs ys) ≡ max (length xs) (length ys)
sets_length [] ys = omega arith
sets_length (x ∷ xs) [] = omega arith
sets_length (x ∷ xs) (y ∷ ys) = let h = sets_length xs ys in omega (arith, h)

-- sets of a site, joined and with one site more, still fit
pub fits_joined : (n : ℕ) (xs ys : List Bool) → set_fits n xs ≡ true → set_fits n ys ≡ true → set_fits n (set_joined xs ys) ≡ true
fits_joined n xs ys d e = fits_of n (set_joined xs ys) (λ k le. sets_read xs ys k ∙ (λ i. past_fits n xs d k le i || past_fits n ys e k le i))

pub fits_with : (n : ℕ) (xs : List Bool) (site : ℕ) → site ≤ n → set_fits n xs ≡ true → set_fits n (with_site xs site) ≡ true
fits_with n xs zero le e = e
fits_with n xs (suc j) lt e = fits_of n (with_site xs (suc j)) (λ k le. get_or-set_other xs j k true false (λ same. omega arith) ∙ past_fits n xs e k le)

-- reading 16 places as the union does makes it
pub is_union : (xs ys zs : List Bool) → length xs ≡ 16 → length ys ≡ 16 → length zs ≡ 16
    → ((k : ℕ) → k < 16 → get_or zs k false ≡ (get_or xs k false || get_or ys k false)) → zs ≡ set_joined xs ys
is_union xs ys zs lx ly lz each =
    ext_get_or false zs (set_joined xs ys) (omega (arith, sets_length xs ys, lx, ly, lz)) (λ k lt. each k (omega (arith, lz)) ∙ sym (sets_read xs ys k))

-- one place more of a union
pub union_step : (i : ℕ) (xs ys zs : List Bool) (b : Bool) → i < length zs → b ≡ (get_or xs i false || get_or ys i false)
    → ((k : ℕ) → k < i → get_or zs k false ≡ (get_or xs k false || get_or ys k false)) → (k : ℕ) → k < i + 1 → get_or (set zs i b) k false ≡ (get_or xs k false || get_or ys k false)
union_step i xs ys zs b long here done k lt = elim (cases_eq k i) [
  | inl e ↦ ap (λ j. get_or (set zs i b) j false) e ∙ get_or-set_same zs i b false long ∙ here ∙ sym (ap (λ j. get_or xs j false || get_or ys j false) e)
  | inr ne ↦ get_or-set_other zs i k b false ne ∙ done k (below k i lt ne)
]
  where
    below : (k i : ℕ) → k < i + 1 → k ≢ i → k < i
    below k i lt ne = grind arith

pub union_rest : (i : ℕ) (xs zs : List Bool) (b : Bool) → ((k : ℕ) → i ≤ k → get_or zs k false ≡ get_or xs k false) → (k : ℕ) → i + 1 ≤ k → get_or (set zs i b) k false ≡ get_or xs k false
union_rest i xs zs b rest k le = get_or-set_other zs i k b false (λ e. omega (arith, e, le)) ∙ rest k (omega arith)

-- what is past 16 places is in no set
pub below_16 : (n i : ℕ) (xs : List Bool) → length xs ≡ 16 → 16 ≤ i → ((k : ℕ) → k < i → n ≤ k → get_or xs k false ≡ false) → (k : ℕ) → n ≤ k → get_or xs k false ≡ false
below_16 n i xs many all done k le = elim (cases_lt k i) [
  | inl lt ↦ done k lt le
  | inr ge ↦ get_or_past xs k false (omega (arith, many, all, ge))
]

-- a set that has all that another has is their union
pub covers_sets : (xs ys : List Bool) → length xs ≡ 16 → length ys ≡ 16 → ((k : ℕ) → k < 16 → get_or ys k false ≡ true → get_or xs k false ≡ true) → set_joined xs ys ≡ xs
covers_sets xs ys lx ly has = sym (is_union xs ys xs lx ly lx (λ k lt. by (get_or xs k false) (get_or ys k false) (has k lt)))
  where
    by : (x y : Bool) → (y ≡ true → x ≡ true) → x ≡ (x || y)
    by true y h = refl
    by false true h = h refl
    by false false h = refl

pub covered_set : (xs ys : List Bool) (k : ℕ) → set_joined xs ys ≡ xs → get_or ys k false ≡ true → get_or xs k false ≡ true
covered_set xs ys k e has = by (get_or xs k false) (get_or ys k false) (sym (sets_read xs ys k) ∙ ap (λ zs. get_or zs k false) e) has
  where
    by : (x y : Bool) → (x || y) ≡ x → y ≡ true → x ≡ true
    by true y e h = refl
    by false y e h = sym e ∙ h

-- ---- sets as numbers

pow_two : (n : ℕ) → 2 ^ suc n ≡ 2 ^ n + 2 ^ n
pow_two n = let h = pow-succ' 2 n in omega (arith, h)

pub set_bits_few : (xs : List Bool) (n : ℕ) → length xs ≤ n → set_bits xs < 2 ^ n
unfolding set_bits
set_bits_few [] n le = pow_pos n
set_bits_few (x ∷ xs) zero le = absurd (omega arith)
set_bits_few (true ∷ xs) (suc n) le = let h = set_bits_few xs n (omega arith) in let p : 2 ^ suc n ≡ 2 ^ n + 2 ^ n = pow_two n in omega (arith, h, p)
set_bits_few (false ∷ xs) (suc n) le = let h = set_bits_few xs n (omega arith) in let p : 2 ^ suc n ≡ 2 ^ n + 2 ^ n = pow_two n in omega (arith, h, p)

-- the bits past those of the sites are those of a greater number
pub set_bits_fit : (n : ℕ) (xs : List Bool) → set_fits n xs ≡ true → set_bits xs < 2 ^ n
unfolding set_bits
set_bits_fit n [] e = pow_pos n
set_bits_fit zero (true ∷ xs) e = cc
set_bits_fit zero (false ∷ xs) e = let h = set_bits_fit 0 xs e in omega (arith, h)
set_bits_fit (suc n) (true ∷ xs) e = let h = set_bits_fit n xs e in let p : 2 ^ suc n ≡ 2 ^ n + 2 ^ n = pow_two n in omega (arith, h, p)
set_bits_fit (suc n) (false ∷ xs) e = let h = set_bits_fit n xs e in let p : 2 ^ suc n ≡ 2 ^ n + 2 ^ n = pow_two n in omega (arith, h, p)

-- a number's bits are those of its set
bit_back : (b : ℕ) → cond (b % 2 == 1) 1 0 ≡ b % 2
bit_back b = grind (arith, nat_tests)

pub bits_back : (n bits : ℕ) → bits < 2 ^ n → set_bits (bits_set n bits) ≡ bits
unfolding set_bits bits_set
bits_back zero bits lt = omega (arith, lt)
bits_back (suc n) bits lt = let p : 2 ^ suc n ≡ 2 ^ n + 2 ^ n = pow_two n in let h = bits_back n (bits / 2) (omega (arith, lt, p)) in let b = bit_back bits in omega (arith, h, b)

halves : (x : Bool) (m : ℕ) → ((cond x 1 0 + 2 * m) / 2 ≡ m) × (((cond x 1 0 + 2 * m) % 2 == 1) ≡ x)
halves true m = (omega arith, grind (arith, nat_tests))
halves false m = (omega arith, grind (arith, nat_tests))

-- one site more, from the last one on
set_bits_drop : (xs : List Bool) (i : ℕ) → i < length xs → set_bits (drop i xs) ≡ cond (get_or xs i false) 1 0 + 2 * set_bits (drop (i + 1) xs)
unfolding set_bits
set_bits_drop xs i lt = ap set_bits (drop_more xs i false lt)

pub bits_step : (xs : List Bool) (i bit bits : ℕ) → length xs ≡ 16 → i < 16 → bits ≡ set_bits (drop (16 - i) xs) → bit ≡ cond (get_or xs (15 - i) false) 1 0 → bits * 2 + bit ≡ set_bits (drop (16 - (i + 1)) xs)
bits_step xs i bit bits many lt is here =
    let at : 16 - (i + 1) ≡ 15 - i = omega arith in
    let next : 15 - i + 1 ≡ 16 - i = omega (arith, lt) in
    let d : set_bits (drop (15 - i) xs) ≡ cond (get_or xs (15 - i) false) 1 0 + 2 * set_bits (drop (15 - i + 1) xs) = set_bits_drop xs (15 - i) (omega (arith, many)) in
    let e : set_bits (drop (15 - i + 1) xs) ≡ bits = ap (λ k. set_bits (drop k xs)) next ∙ sym is in
    let sum : bits * 2 + bit ≡ set_bits (drop (15 - i) xs) = omega (arith, d, e, here) in
    sum ∙ ap (λ k. set_bits (drop k xs)) (sym at)

pub bits_room : (i : ℕ) (xs : List Bool) → length xs ≡ 16 → set_bits (drop i xs) < 65536
bits_room i xs many = set_bits_few (drop i xs) 16 (omega (arith, many, length-drop i xs))

pub bits_none : (xs : List Bool) → length xs ≡ 16 → 0 ≡ set_bits (drop 16 xs)
unfolding set_bits
bits_none xs many = sym (ap set_bits (drop_all 16 xs (omega (arith, many))))

pub bits_whole : (xs : List Bool) (i : ℕ) → 16 ≤ i → set_bits (drop (16 - i) xs) ≡ set_bits xs
bits_whole xs i le = let none : 16 - i ≡ 0 = omega (arith, le) in ap (λ k. set_bits (drop k xs)) none

-- and from the first one on
pub bits_more : (n bits : ℕ) → 1 ≤ n → bits_set n bits ≡ (bits % 2 == 1) ∷ bits_set (n - 1) (bits / 2)
unfolding bits_set
bits_more zero bits le = absurd (omega arith)
bits_more (suc n) bits le = let e : n ≡ suc n - 1 = omega arith in ap (λ k. (bits % 2 == 1) ∷ bits_set k (bits / 2)) e

pub set_step : (sites : List Bool) (at rest bits : ℕ) → length sites ≡ 16 → at < 16 → take at sites ++ bits_set (16 - at) rest ≡ bits_set 16 bits
    → take (at + 1) (set sites at (rest % 2 == 1)) ++ bits_set (16 - (at + 1)) (rest / 2) ≡ bits_set 16 bits
set_step sites at rest bits many lt is =
    let bit = rest % 2 == 1 in
    let left : 16 - at - 1 ≡ 16 - (at + 1) = omega arith in
    ap (λ xs. xs ++ bits_set (16 - (at + 1)) (rest / 2)) (take_more_set sites at bit (omega (arith, many, lt)))
    ∙ append_assoc (take at sites) (bit ∷ []) (bits_set (16 - (at + 1)) (rest / 2))
    ∙ ap (λ xs. take at sites ++ xs) (sym (bits_more (16 - at) rest (omega (arith, lt)) ∙ ap (λ k. bit ∷ bits_set k (rest / 2)) left))
    ∙ is

pub set_whole : (sites : List Bool) (at rest bits : ℕ) → length sites ≡ 16 → 16 ≤ at → take at sites ++ bits_set (16 - at) rest ≡ bits_set 16 bits → sites ≡ bits_set 16 bits
unfolding bits_set
set_whole sites at rest bits many le is =
    let none : 16 - at ≡ 0 = omega (arith, le) in
    sym (append-nil sites) ∙ (λ i. sym (take_all at sites (omega (arith, many, le))) i ++ sym (ap (λ k. bits_set k rest) none) i) ∙ is

-- and a set's number gives the set
pub set_back : (n : ℕ) (xs : List Bool) → length xs ≡ n → bits_set n (set_bits xs) ≡ xs
unfolding set_bits bits_set
set_back n [] e = ap (λ k. bits_set k 0) (sym e)
set_back zero (x ∷ xs) e = absurd (omega (arith, e))
set_back (suc n) (x ∷ xs) e =
    let h = halves x (set_bits xs) in
    let rest = set_back n xs (omega (arith, e)) in
    λ i. h.1 i ∷ (ap (bits_set n) h.0 ∙ rest) i

pub bits_length : (n bits : ℕ) → length (bits_set n bits) ≡ n
unfolding bits_set
bits_length zero bits = refl
bits_length (suc n) bits = ap suc (bits_length n (bits / 2))

-- a number below the bits of the sites is a set of them
pub bits_fit : (m n bits : ℕ) → bits < 2 ^ n → set_fits n (bits_set m bits) ≡ true
unfolding bits_set
bits_fit zero n bits lt = refl
bits_fit (suc m) zero bits lt =
    let none : bits ≡ 0 = omega (arith, lt) in
    subst (λ b. (not (b % 2 == 1) && set_fits 0 (bits_set m (b / 2))) ≡ true) (sym none) (bits_fit m 0 0 (omega arith))
bits_fit (suc m) (suc n) bits lt = let p : 2 ^ suc n ≡ 2 ^ n + 2 ^ n = pow_two n in bits_fit m n (bits / 2) (omega (arith, lt, p))

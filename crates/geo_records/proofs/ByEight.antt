-- Bytes in order, eight at a time: as numbers, the first byte the greatest.
use Rattle.std.proofs.Common.{◌≡◌, ◌+◌, ◌*◌, ◌≤◌, ◌<◌, ◌∙◌, ℕ, zero, suc, List, [], ◌∷◌, ◌++◌, refl, sym, ap, subst, length, take, drop, get_or, Fits, w8, arith, min}
use Rattle.std.specs.declared.cmp.Ordering.{Ordering}
use Rattle.std.specs.declared.cmp.Ordering.TheVariants.{Less, Equal, Greater}
use Rattle.std.specs.Ordering.{nat_cmp, ordering_then, MatchOrdering}
use Rattle.std.specs.Cmp.{ranks, nat_cmp_is}
use Rattle.std.specs.Cmp.Lexicographic.{slice_cmp}
use Rattle.std.specs.Simd.Lanes.{chunk}
use Rattle.std.specs.Slice.Scan.{big_endian}
use Rattle.std.proofs.Math.Seq.{take-add}
use Rattle.std.proofs.lemmas.List.{get_or-drop, length-drop}
use Rattle.std.proofs.lemmas.Map.Lookups.{exact_bytes}

abbrev pub Bytes : List ℕ → Type 0
Bytes xs = (k : ℕ) → Fits w8 (get_or xs k 0)

-- the first n are the same
abbrev pub SameUpTo : List ℕ → List ℕ → ℕ → Type 0
SameUpTo xs ys n = take n xs ≡ take n ys

then_level : (r : Ordering) → ordering_then r Equal ≡ r
then_level Less = refl
then_level Equal = refl
then_level Greater = refl

then_then : (r s t : Ordering) → ordering_then (ordering_then r s) t ≡ ordering_then r (ordering_then s t)
then_then Less s t = refl
then_then Equal s t = refl
then_then Greater s t = refl

-- one digit more
digit : (a b u v : ℕ) → u < 256 → v < 256 → nat_cmp (a * 256 + u) (b * 256 + v) ≡ ordering_then (nat_cmp a b) (nat_cmp u v)
digit a b u v p q = sym (nat_cmp_is (a * 256 + u) (b * 256 + v) _ (by (nat_cmp a b) (nat_cmp u v) (ranks a b) (ranks u v)))
  where
    by : (r s : Ordering) → MatchOrdering r (a < b) (a ≡ b) (b < a) → MatchOrdering s (u < v) (u ≡ v) (v < u)
        → MatchOrdering (ordering_then r s) (a * 256 + u < b * 256 + v) (a * 256 + u ≡ b * 256 + v) (b * 256 + v < a * 256 + u)
    by Less s l m = let less : a < b = l in omega arith
    by Greater s l m = let more : b < a = l in omega arith
    by Equal Less l m = let same : a ≡ b = l in let less : u < v = m in omega arith
    by Equal Equal l m = let same : a ≡ b = l in let level : u ≡ v = m in omega arith
    by Equal Greater l m = let same : a ≡ b = l in let more : v < u = m in omega arith

-- numbers compare as their first digits, and then as the others
numbers : (n a b : ℕ) (us vs : List ℕ) → n ≤ length us → n ≤ length vs → Bytes us → Bytes vs
    → nat_cmp (big_endian a (take n us)) (big_endian b (take n vs)) ≡ ordering_then (nat_cmp a b) (slice_cmp nat_cmp (take n us) (take n vs))
numbers zero a b us vs p q f g = sym (then_level (nat_cmp a b))
numbers (suc n) a b [] vs p q f g = absurd (omega arith)
numbers (suc n) a b (u ∷ us) [] p q f g = absurd (omega arith)
numbers (suc n) a b (u ∷ us) (v ∷ vs) p q f g =
    numbers n (a * 256 + u) (b * 256 + v) us vs (omega arith) (omega arith) (λ k. f (suc k)) (λ k. g (suc k))
    ∙ ap (λ r. ordering_then r (slice_cmp nat_cmp (take n us) (take n vs))) (digit a b u v ((f 0).fits) ((g 0).fits))
    ∙ then_then (nat_cmp a b) (nat_cmp u v) (slice_cmp nat_cmp (take n us) (take n vs))

-- lists compare as their beginnings, and then as the rest
parts : (n : ℕ) (us vs : List ℕ) → n ≤ length us → n ≤ length vs
    → slice_cmp nat_cmp us vs ≡ ordering_then (slice_cmp nat_cmp (take n us) (take n vs)) (slice_cmp nat_cmp (drop n us) (drop n vs))
parts zero us vs p q = refl
parts (suc n) [] vs p q = absurd (omega arith)
parts (suc n) (u ∷ us) [] p q = absurd (omega arith)
parts (suc n) (u ∷ us) (v ∷ vs) p q =
    ap (ordering_then (nat_cmp u v)) (parts n us vs (omega arith) (omega arith))
    ∙ sym (then_then (nat_cmp u v) (slice_cmp nat_cmp (take n us) (take n vs)) (slice_cmp nat_cmp (drop n us) (drop n vs)))

level : (xs : List ℕ) → slice_cmp nat_cmp xs xs ≡ Equal
level [] = refl
level (x ∷ xs) = ap (λ r. ordering_then r (slice_cmp nat_cmp xs xs)) (sym (nat_cmp_is x x Equal refl)) ∙ level xs

decided : (x y : ℕ) (o : Ordering) → (x ≡ y → ⊥) → ordering_then (nat_cmp x y) o ≡ nat_cmp x y
decided x y o apart = by (nat_cmp x y) (ranks x y)
  where
    by : (r : Ordering) → MatchOrdering r (x < y) (x ≡ y) (y < x) → ordering_then r o ≡ r
    by Less m = refl
    by Equal m = absurd (apart m)
    by Greater m = refl

cut : (i j : ℕ) (l : List ℕ) → i ≤ j → take i l ≡ take i (take j l)
cut zero j l le = refl
cut (suc i) zero l le = absurd (omega arith)
cut (suc i) (suc j) [] le = refl
cut (suc i) (suc j) (x ∷ l) le = ap (λ m. x ∷ m) (cut i j l (omega arith))

one_less : (m n : ℕ) → nat_cmp (suc m) (suc n) ≡ nat_cmp m n
one_less m n = sym (nat_cmp_is (suc m) (suc n) (nat_cmp m n) (by (nat_cmp m n) (ranks m n)))
  where
    by : (r : Ordering) → MatchOrdering r (m < n) (m ≡ n) (n < m) → MatchOrdering r (suc m < suc n) (suc m ≡ suc n) (suc n < suc m)
    by Less l = let less : m < n = l in omega arith
    by Equal l = let same : m ≡ n = l in omega arith
    by Greater l = let more : n < m = l in omega arith

-- all that both have is the same
pub by_lengths : (n : ℕ) (xs ys : List ℕ) → n ≡ min (length xs) (length ys) → SameUpTo xs ys n → nat_cmp (length xs) (length ys) ≡ slice_cmp nat_cmp xs ys
by_lengths n [] [] is same = sym (nat_cmp_is 0 0 Equal refl)
by_lengths n [] (y ∷ ys) is same = sym (nat_cmp_is 0 (length (y ∷ ys)) Less (omega arith))
by_lengths n (x ∷ xs) [] is same = sym (nat_cmp_is (length (x ∷ xs)) 0 Greater (omega arith))
by_lengths zero (x ∷ xs) (y ∷ ys) is same = absurd (omega arith)
by_lengths (suc n) (x ∷ xs) (y ∷ ys) is same =
    one_less (length xs) (length ys)
    ∙ by_lengths n xs ys (omega arith) (ap (drop 1) same)
    ∙ ap (λ r. ordering_then r (slice_cmp nat_cmp xs ys)) (nat_cmp_is x x Equal refl ∙ ap (nat_cmp x) (ap (λ l. get_or l 0 0) same))

module _ (xs ys : List ℕ) where
  pub fewer : (i j : ℕ) → i ≤ j → SameUpTo xs ys j → SameUpTo xs ys i
  fewer i j le same = cut i j xs le ∙ ap (take i) same ∙ sym (cut i j ys le)

  -- what follows the same decides
  follows : (i : ℕ) → i ≤ length xs → i ≤ length ys → SameUpTo xs ys i → slice_cmp nat_cmp xs ys ≡ slice_cmp nat_cmp (drop i xs) (drop i ys)
  follows i p q same =
      parts i xs ys p q
      ∙ ap (λ r. ordering_then r (slice_cmp nat_cmp (drop i xs) (drop i ys))) (ap (slice_cmp nat_cmp (take i xs)) (sym same) ∙ level (take i xs))

  module _ (f : Bytes xs) (g : Bytes ys) where
    spelled : (i x y : ℕ) → i + 8 ≤ length xs → i + 8 ≤ length ys → x ≡ big_endian 0 (chunk i 8 xs) → y ≡ big_endian 0 (chunk i 8 ys) → nat_cmp x y ≡ slice_cmp nat_cmp (chunk i 8 xs) (chunk i 8 ys)
    spelled i x y p q a b =
        ap (λ n. nat_cmp n y) a ∙ ap (nat_cmp (big_endian 0 (chunk i 8 xs))) b
        ∙ numbers 8 0 0 (drop i xs) (drop i ys) (let l = length-drop i xs in omega (arith, l)) (let l = length-drop i ys in omega (arith, l))
        (λ k. subst (Fits w8) (sym (get_or-drop i xs k 0)) (f (i + k))) (λ k. subst (Fits w8) (sym (get_or-drop i ys k 0)) (g (i + k)))

    -- eight that differ decide
    pub apart : (i x y : ℕ) → i + 8 ≤ length xs → i + 8 ≤ length ys → x ≡ big_endian 0 (chunk i 8 xs) → y ≡ big_endian 0 (chunk i 8 ys) → SameUpTo xs ys i
        → (x ≡ y → ⊥) → nat_cmp x y ≡ slice_cmp nat_cmp xs ys
    apart i x y p q a b same differ =
        let rest = slice_cmp nat_cmp (drop 8 (drop i xs)) (drop 8 (drop i ys)) in
        sym (decided x y rest differ) ∙ ap (λ r. ordering_then r rest) (spelled i x y p q a b)
        ∙ sym (parts 8 (drop i xs) (drop i ys) (let l = length-drop i xs in omega (arith, l)) (let l = length-drop i ys in omega (arith, l)))
        ∙ sym (follows i (omega arith) (omega arith) same)

    -- eight that are the same
    pub alike : (i x y : ℕ) → i + 8 ≤ length xs → i + 8 ≤ length ys → x ≡ big_endian 0 (chunk i 8 xs) → y ≡ big_endian 0 (chunk i 8 ys) → SameUpTo xs ys i → x ≡ y → SameUpTo xs ys (i + 8)
    alike i x y p q a b same e =
        let tied : slice_cmp nat_cmp (chunk i 8 xs) (chunk i 8 ys) ≡ Equal = sym (spelled i x y p q a b) ∙ ap (nat_cmp x) (sym e) ∙ sym (nat_cmp_is x x Equal refl) in
        take-add i 8 xs ∙ ap (λ l. l ++ chunk i 8 xs) same ∙ ap (λ l. take i ys ++ l) (exact_bytes (chunk i 8 xs) (chunk i 8 ys) tied) ∙ sym (take-add i 8 ys)

-- Some bytes of keys as numbers: those that differ compare as the keys do.
use Rattle.std.proofs.Common.{◌≡◌, ◌+◌, ◌*◌, ◌<◌, ◌≤◌, ◌∙◌, ◌==◌, ◌&&◌, ◌||◌, ℕ, zero, suc, Bool, true, false, cond, List, [], ◌∷◌, ◌++◌, refl, sym, ap, subst, length, min, nat_lt, take, drop, get_or, ⊎_elim, true≢false, arith, rules}
use Rattle.std.specs.declared.cmp.Ordering.{Ordering}
use Rattle.std.specs.declared.cmp.Ordering.TheVariants.{Less, Equal, Greater}
use Rattle.std.specs.Ordering.{nat_cmp, ordering_then, MatchOrdering, is_eq, is_lt, eq_by_cmp}
use Rattle.std.specs.Cmp.{IsTotalOrder, ranks, nat_cmp_is}
use Rattle.std.specs.Cmp.Lexicographic.{slice_cmp, pointwise, same_text}
use Rattle.std.specs.Cmp.Rules.{comparing}
use Rattle.std.specs.List.{All, AllByRecursion, list_any, dedup, dedup_from}
use Rattle.std.specs.List.Sorted.{IsSorted, IsStrictlySortedBy}
use Rattle.std.specs.Slice.Scan.{big_endian}
use Rattle.std.proofs.lemmas.Bool.{cases_lt}
use Rattle.std.proofs.lemmas.Bool.Decides.{nat_tests}
use Rattle.std.proofs.lemmas.Cmp.{then_total, on_total, nat_cmp_total, nat_list_cmp_total}
use Rattle.std.proofs.lemmas.List.Elements.{All-head, All-tail}
use Rattle.std.proofs.lemmas.List.Filters.{All-dedup}
use Rattle.std.proofs.lemmas.List.Kept.{IsStrictlySortedBy-dedup}
use Rattle.geo_records.specs.Keys.{same_key}
use Rattle.geo_delta.specs.declared.headed.Headed.{Headed}
use Rattle.geo_delta.specs.Heads.{AreBytes, IsBehind, greatest_head, head_behind, head_of, keys_under, padded}

level : (x : ℕ) → nat_cmp x x ≡ Equal
level x = sym (nat_cmp_is x x Equal refl)

then_level : (r : Ordering) → ordering_then r Equal ≡ r
then_level Less = refl
then_level Equal = refl
then_level Greater = refl

then_then : (r s t : Ordering) → ordering_then (ordering_then r s) t ≡ ordering_then r (ordering_then s t)
then_then Less s t = refl
then_then Equal s t = refl
then_then Greater s t = refl

-- one digit more
digit : (a b u v : ℕ) → u < 256 → v < 256 → nat_cmp (a * 256 + u) (b * 256 + v) ≡ ordering_then (nat_cmp a b) (nat_cmp u v)
digit a b u v p q = sym (nat_cmp_is (a * 256 + u) (b * 256 + v) _ (by (nat_cmp a b) (nat_cmp u v) (ranks a b) (ranks u v)))
  where
    by : (r s : Ordering) → MatchOrdering r (a < b) (a ≡ b) (b < a) → MatchOrdering s (u < v) (u ≡ v) (v < u)
        → MatchOrdering (ordering_then r s) (a * 256 + u < b * 256 + v) (a * 256 + u ≡ b * 256 + v) (b * 256 + v < a * 256 + u)
    by Less s l m = let less : a < b = l in omega arith
    by Greater s l m = let more : b < a = l in omega arith
    by Equal Less l m = let same : a ≡ b = l in let less : u < v = m in omega arith
    by Equal Equal l m = let same : a ≡ b = l in let level : u ≡ v = m in omega arith
    by Equal Greater l m = let same : a ≡ b = l in let more : v < u = m in omega arith

later : (xs : List ℕ) → AreBytes xs → AreBytes (drop 1 xs)
later [] f k = f k
later (x ∷ xs) f k = f (suc k)

-- numbers compare as their first digits, and then as the others
numbers : (n a b : ℕ) (xs ys : List ℕ) → AreBytes xs → AreBytes ys
    → nat_cmp (big_endian a (padded n xs)) (big_endian b (padded n ys)) ≡ ordering_then (nat_cmp a b) (slice_cmp nat_cmp (padded n xs) (padded n ys))
numbers zero a b xs ys f g = sym (then_level (nat_cmp a b))
numbers (suc n) a b xs ys f g =
    let u = get_or xs 0 0 in
    let v = get_or ys 0 0 in
    let rest = slice_cmp nat_cmp (padded n (drop 1 xs)) (padded n (drop 1 ys)) in
    numbers n (a * 256 + u) (b * 256 + v) (drop 1 xs) (drop 1 ys) (later xs f) (later ys g)
    ∙ ap (λ r. ordering_then r rest) (digit a b u v (f 0) (g 0))
    ∙ then_then (nat_cmp a b) (nat_cmp u v) rest

-- nothing is below zeros
least : (n : ℕ) (ys : List ℕ) → (slice_cmp nat_cmp (padded n []) (padded n ys) ≡ Equal → ⊥) → slice_cmp nat_cmp (padded n []) (padded n ys) ≡ Less
least zero ys f = absurd (f refl)
least (suc n) [] f = least n [] f
least (suc n) (zero ∷ ys) f = least n ys f
least (suc n) (suc y ∷ ys) f = ap (λ r. ordering_then r (slice_cmp nat_cmp (padded n []) (padded n ys))) (sym (nat_cmp_is 0 (suc y) Less (omega arith)))

above : (n : ℕ) (xs : List ℕ) → (slice_cmp nat_cmp (padded n xs) (padded n []) ≡ Equal → ⊥) → slice_cmp nat_cmp (padded n xs) (padded n []) ≡ Greater
above zero xs f = absurd (f refl)
above (suc n) [] f = above n [] f
above (suc n) (zero ∷ xs) f = above n xs f
above (suc n) (suc x ∷ xs) f = ap (λ r. ordering_then r (slice_cmp nat_cmp (padded n xs) (padded n []))) (sym (nat_cmp_is (suc x) 0 Greater (omega arith)))

tied : (n : ℕ) → slice_cmp nat_cmp (padded n []) (padded n []) ≡ Equal
tied zero = refl
tied (suc n) = tied n

-- the first that differ decide, zeros too
decided : (n : ℕ) (xs ys : List ℕ) → (slice_cmp nat_cmp (padded n xs) (padded n ys) ≡ Equal → ⊥) → slice_cmp nat_cmp (padded n xs) (padded n ys) ≡ slice_cmp nat_cmp xs ys
decided zero xs ys f = absurd (f refl)
decided (suc n) [] [] f = absurd (f (tied n))
decided (suc n) [] (y ∷ ys) f = least (suc n) (y ∷ ys) f
decided (suc n) (x ∷ xs) [] f = above (suc n) (x ∷ xs) f
decided (suc n) (x ∷ xs) (y ∷ ys) f = by (nat_cmp x y) (decided n xs ys) f
  where
    by : (r : Ordering) → ((slice_cmp nat_cmp (padded n xs) (padded n ys) ≡ Equal → ⊥) → slice_cmp nat_cmp (padded n xs) (padded n ys) ≡ slice_cmp nat_cmp xs ys)
        → (ordering_then r (slice_cmp nat_cmp (padded n xs) (padded n ys)) ≡ Equal → ⊥) → ordering_then r (slice_cmp nat_cmp (padded n xs) (padded n ys)) ≡ ordering_then r (slice_cmp nat_cmp xs ys)
    by Less rest f = refl
    by Equal rest f = rest f
    by Greater rest f = refl

-- sixteen digits as one number
spelled : (xs : List ℕ) → head_of xs ≡ big_endian 0 (padded 16 xs)
spelled xs = omega arith

-- heads that differ compare as the keys do
apart : (xs ys : List ℕ) → AreBytes xs → AreBytes ys → (head_of xs ≡ head_of ys → ⊥) → nat_cmp (head_of xs) (head_of ys) ≡ slice_cmp nat_cmp xs ys
apart xs ys f g differ =
    let lies : nat_cmp (head_of xs) (head_of ys) ≡ slice_cmp nat_cmp (padded 16 xs) (padded 16 ys)
    = ap (λ x. nat_cmp x (head_of ys)) (spelled xs) ∙ ap (nat_cmp (big_endian 0 (padded 16 xs))) (spelled ys) ∙ numbers 16 0 0 xs ys f g in
    lies ∙ decided 16 xs ys (λ e. differ (same (head_of xs) (head_of ys) (lies ∙ e)))
  where
    same : (x y : ℕ) → nat_cmp x y ≡ Equal → x ≡ y
    same x y e = by (nat_cmp x y) (ranks x y) e
      where
        by : (r : Ordering) → MatchOrdering r (x < y) (x ≡ y) (y < x) → r ≡ Equal → x ≡ y
        by Less l e = absurd (true≢false (sym (ap is_eq e)))
        by Equal l e = l
        by Greater l e = absurd (true≢false (sym (ap is_eq e)))

abbrev pub zeros : ℕ → List ℕ
zeros zero = []
zeros (suc n) = 0 ∷ zeros n

all_zeros : (n : ℕ) → zeros n ≡ padded n []
all_zeros zero = refl
all_zeros (suc n) = ap (λ l. 0 ∷ l) (all_zeros n)

-- bytes over the first of so many zeros
over : (n k : ℕ) (bytes : List ℕ) → k ≡ min (length bytes) n → take k bytes ++ drop k (zeros n) ≡ padded n bytes
over zero zero bytes e = refl
over zero (suc k) bytes e = absurd (omega arith)
over (suc n) zero [] e = all_zeros (suc n)
over (suc n) zero (byte ∷ bytes) e = absurd (omega arith)
over (suc n) (suc k) [] e = absurd (omega arith)
over (suc n) (suc k) (byte ∷ bytes) e = ap (λ l. byte ∷ l) (over n k bytes (omega arith))

pub written_over : (k : ℕ) (bytes part : List ℕ) → k ≡ min (length bytes) 16 → part ≡ take k bytes → part ++ drop k (zeros 16) ≡ padded 16 bytes
written_over k bytes part e is = ap (λ l. l ++ drop k (zeros 16)) is ∙ over 16 k bytes e

-- digits as great as can be behind a number
topmost : ℕ → ℕ → ℕ
topmost zero a = a
topmost (suc n) a = topmost n (a * 256 + 255)

topped : (n a b : ℕ) (xs : List ℕ) → AreBytes xs → a ≤ b → big_endian a (padded n xs) ≤ topmost n b
unfolding topmost
topped zero a b xs f le = le
topped (suc n) a b xs f le =
    let small : get_or xs 0 0 < 256 = f 0 in
    topped n (a * 256 + get_or xs 0 0) (b * 256 + 255) (drop 1 xs) (later xs f) (omega arith)

-- no head is greater than the greatest
most : (xs : List ℕ) → AreBytes xs → head_of xs ≤ greatest_head
unfolding topmost
most xs f = subst (λ h. h ≤ greatest_head) (sym (spelled xs)) (topped 16 0 0 xs f (omega arith))

positive : (v : ℕ) → (0 ≡ v → ⊥) → 0 < v
positive zero differ = absurd (differ refl)
positive (suc v) differ = omega arith

below : (u v : ℕ) → u ≤ v → (u ≡ v → ⊥) → u < v
below u v le differ = ⊎_elim (λ h. h) (λ h. absurd (differ (omega arith))) (cases_lt u v)

-- by how the first byte compares
abbrev pick : Ordering → ℕ → ℕ
pick Less h = 0
pick Equal h = h
pick Greater h = greatest_head

picked : (x b : ℕ) (begin xs : List ℕ) → head_behind (b ∷ begin) (x ∷ xs) ≡ pick (nat_cmp x b) (head_behind begin xs)
picked x b begin xs = by (nat_lt x b) (x == b) (head_behind begin xs)
  where
    by : (less same : Bool) (h : ℕ) → cond less 0 (cond same h greatest_head) ≡ pick (cond less Less (cond same Equal Greater)) h
    by true same h = refl
    by false true h = refl
    by false false h = refl

bounded : (begin xs : List ℕ) → AreBytes xs → head_behind begin xs ≤ greatest_head
bounded [] xs f = most xs f
bounded (b ∷ begin) [] f = omega arith
bounded (b ∷ begin) (x ∷ xs) f = subst (λ h. h ≤ greatest_head) (sym (picked x b begin xs)) (by (nat_cmp x b) (bounded begin xs (later (x ∷ xs) f)))
  where
    by : (r : Ordering) → head_behind begin xs ≤ greatest_head → pick r (head_behind begin xs) ≤ greatest_head
    by Less h = omega arith
    by Equal h = h
    by Greater h = omega arith

less : (a b : ℕ) → a < b → nat_cmp a b ≡ Less
less a b l = sym (nat_cmp_is a b Less l)

greater : (a b : ℕ) → b < a → nat_cmp a b ≡ Greater
greater a b l = sym (nat_cmp_is a b Greater l)

-- the first bytes decide, or what stands behind them
decides : (x y b u v : ℕ) (rest : Ordering) → u ≤ greatest_head → v ≤ greatest_head → ((u ≡ v → ⊥) → nat_cmp u v ≡ rest)
    → (pick (nat_cmp x b) u ≡ pick (nat_cmp y b) v → ⊥) → nat_cmp (pick (nat_cmp x b) u) (pick (nat_cmp y b) v) ≡ ordering_then (nat_cmp x y) rest
decides x y b u v rest p q later = by (nat_cmp x b) (nat_cmp y b) (ranks x b) (ranks y b)
  where
    under : (m n : ℕ) → m < n → x < y → nat_cmp m n ≡ ordering_then (nat_cmp x y) rest
    under m n h k = less m n h ∙ ap (λ r. ordering_then r rest) (sym (less x y k))

    over : (m n : ℕ) → n < m → y < x → nat_cmp m n ≡ ordering_then (nat_cmp x y) rest
    over m n h k = greater m n h ∙ ap (λ r. ordering_then r rest) (sym (greater x y k))

    by : (r s : Ordering) → MatchOrdering r (x < b) (x ≡ b) (b < x) → MatchOrdering s (y < b) (y ≡ b) (b < y) → (pick r u ≡ pick s v → ⊥)
        → nat_cmp (pick r u) (pick s v) ≡ ordering_then (nat_cmp x y) rest
    by Less Less l m differ = absurd (differ refl)
    by Less Equal l m differ = let low : x < b = l in let same : y ≡ b = m in under 0 v (positive v differ) (omega arith)
    by Less Greater l m differ = let low : x < b = l in let high : b < y = m in under 0 greatest_head (omega arith) (omega arith)
    by Equal Less l m differ = let same : x ≡ b = l in let low : y < b = m in over u 0 (positive u (λ e. differ (sym e))) (omega arith)
    by Equal Equal l m differ =
        let same : x ≡ b = l in let level : y ≡ b = m in
        later differ ∙ ap (λ r. ordering_then r rest) (nat_cmp_is x y Equal (same ∙ sym level))
    by Equal Greater l m differ = let same : x ≡ b = l in let high : b < y = m in under u greatest_head (below u greatest_head p differ) (omega arith)
    by Greater Less l m differ = let high : b < x = l in let low : y < b = m in over greatest_head 0 (omega arith) (omega arith)
    by Greater Equal l m differ = let high : b < x = l in let same : y ≡ b = m in over greatest_head v (below v greatest_head q (λ e. differ (sym e))) (omega arith)
    by Greater Greater l m differ = absurd (differ refl)

-- heads behind a beginning that differ compare as the keys do
behind_apart : (begin xs ys : List ℕ) → AreBytes xs → AreBytes ys → (head_behind begin xs ≡ head_behind begin ys → ⊥)
    → nat_cmp (head_behind begin xs) (head_behind begin ys) ≡ slice_cmp nat_cmp xs ys
behind_apart [] xs ys f g differ = apart xs ys f g differ
behind_apart (b ∷ begin) [] [] f g differ = absurd (differ refl)
behind_apart (b ∷ begin) [] (y ∷ ys) f g differ = less 0 (head_behind (b ∷ begin) (y ∷ ys)) (positive (head_behind (b ∷ begin) (y ∷ ys)) differ)
behind_apart (b ∷ begin) (x ∷ xs) [] f g differ = greater (head_behind (b ∷ begin) (x ∷ xs)) 0 (positive (head_behind (b ∷ begin) (x ∷ xs)) (λ e. differ (sym e)))
behind_apart (b ∷ begin) (x ∷ xs) (y ∷ ys) f g differ =
    let u = head_behind begin xs in
    let v = head_behind begin ys in
    let f' = later (x ∷ xs) f in
    let g' = later (y ∷ ys) g in
    ap (λ h. nat_cmp h (head_behind (b ∷ begin) (y ∷ ys))) (picked x b begin xs) ∙ ap (nat_cmp (pick (nat_cmp x b) u)) (picked y b begin ys)
    ∙ decides x y b u v (slice_cmp nat_cmp xs ys) (bounded begin xs f') (bounded begin ys g') (behind_apart begin xs ys f' g')
    (λ e. differ (picked x b begin xs ∙ e ∙ sym (picked y b begin ys)))

-- bytes that begin so
pub begun : (begin bytes : List ℕ) → pointwise ◌==◌ (take (length begin) bytes) begin ≡ true → head_behind begin bytes ≡ head_of (drop (length begin) bytes)
begun [] bytes e = refl
begun (b ∷ begin) [] e = absurd (true≢false (sym e))
begun (b ∷ begin) (x ∷ bytes) e = by (nat_lt x b) (x == b) refl refl (begun begin bytes) e
  where
    by : (low same : Bool) → nat_lt x b ≡ low → (x == b) ≡ same
        → (pointwise ◌==◌ (take (length begin) bytes) begin ≡ true → head_behind begin bytes ≡ head_of (drop (length begin) bytes))
        → (same && pointwise ◌==◌ (take (length begin) bytes) begin) ≡ true → cond low 0 (cond same (head_behind begin bytes) greatest_head) ≡ head_of (drop (length begin) bytes)
    by low false p q rest h = absurd (true≢false (sym h))
    by true true p q rest h = absurd (grind (arith, nat_tests))
    by false true p q rest h = rest h

-- bytes that begin otherwise
pub begun_below : (begin bytes : List ℕ) → pointwise ◌==◌ (take (length begin) bytes) begin ≡ false → slice_cmp nat_cmp bytes begin ≡ Less → head_behind begin bytes ≡ 0
begun_below [] bytes e l = absurd (true≢false e)
begun_below (b ∷ begin) [] e l = refl
begun_below (b ∷ begin) (x ∷ bytes) e l = by (nat_lt x b) (x == b) (begun_below begin bytes) e l
  where
    by : (low same : Bool) → (pointwise ◌==◌ (take (length begin) bytes) begin ≡ false → slice_cmp nat_cmp bytes begin ≡ Less → head_behind begin bytes ≡ 0)
        → (same && pointwise ◌==◌ (take (length begin) bytes) begin) ≡ false → ordering_then (cond low Less (cond same Equal Greater)) (slice_cmp nat_cmp bytes begin) ≡ Less
        → cond low 0 (cond same (head_behind begin bytes) greatest_head) ≡ 0
    by true same rest h k = refl
    by false true rest h k = rest h k
    by false false rest h k = cc

pub begun_above : (begin bytes : List ℕ) → pointwise ◌==◌ (take (length begin) bytes) begin ≡ false → (slice_cmp nat_cmp bytes begin ≡ Less → ⊥) → head_behind begin bytes ≡ greatest_head
begun_above [] bytes e l = absurd (true≢false e)
begun_above (b ∷ begin) [] e l = absurd (l refl)
begun_above (b ∷ begin) (x ∷ bytes) e l = by (nat_lt x b) (x == b) (begun_above begin bytes) e l
  where
    by : (low same : Bool) → (pointwise ◌==◌ (take (length begin) bytes) begin ≡ false → (slice_cmp nat_cmp bytes begin ≡ Less → ⊥) → head_behind begin bytes ≡ greatest_head)
        → (same && pointwise ◌==◌ (take (length begin) bytes) begin) ≡ false → (ordering_then (cond low Less (cond same Equal Greater)) (slice_cmp nat_cmp bytes begin) ≡ Less → ⊥)
        → cond low 0 (cond same (head_behind begin bytes) greatest_head) ≡ greatest_head
    by true same rest h k = absurd (k refl)
    by false true rest h k = rest h k
    by false false rest h k = refl

pub is_less : (o : Ordering) → is_lt o ≡ true → o ≡ Less
is_less Less e = refl
is_less Equal e = absurd (true≢false (sym e))
is_less Greater e = absurd (true≢false (sym e))

pub is_not_less : (o : Ordering) → is_lt o ≡ false → o ≡ Less → ⊥
is_not_less o e same = true≢false (sym (ap is_lt same) ∙ e)

-- the same number and the same key
abbrev pub same_headed : Headed → Headed → Bool
same_headed h k = h.head == k.head && same_key h.key.now k.key.now

-- by the number, and then by the key
abbrev by_head : Headed → Headed → Ordering
by_head h k = ordering_then (nat_cmp h.head k.head) (slice_cmp nat_cmp h.key.now k.key.now)

by_head_total : IsTotalOrder by_head
by_head_total = then_total (on_total (λ (h : Headed). h.head) nat_cmp_total) (on_total (λ (h : Headed). h.key.now) nat_list_cmp_total)

by_head_ties : (h k : Headed) → same_headed h k ≡ eq_by_cmp by_head h k
by_head_ties = search (comparing, rules)

-- which goes as the keys do
by_heads : (begin : List ℕ) (h k : Headed) → IsBehind begin h → IsBehind begin k
    → by_head h k ≡ slice_cmp nat_cmp h.key.now k.key.now
by_heads begin h k p q = by (nat_cmp h.head k.head) refl (ranks h.head k.head)
  where
    settled : (h.head ≡ k.head → ⊥) → nat_cmp h.head k.head ≡ slice_cmp nat_cmp h.key.now k.key.now
    settled differ =
        ap (λ a. nat_cmp a k.head) p.0 ∙ ap (nat_cmp (head_behind begin h.key.now)) q.0
        ∙ behind_apart begin h.key.now k.key.now p.1 q.1 (λ e. differ (p.0 ∙ e ∙ sym q.0))

    by : (r : Ordering) → nat_cmp h.head k.head ≡ r → MatchOrdering r (h.head < k.head) (h.head ≡ k.head) (k.head < h.head)
        → ordering_then r (slice_cmp nat_cmp h.key.now k.key.now) ≡ slice_cmp nat_cmp h.key.now k.key.now
    by Less e l = let low : h.head < k.head = l in sym e ∙ settled (λ same. omega arith)
    by Equal e l = refl
    by Greater e l = let high : k.head < h.head = l in sym e ∙ settled (λ same. omega arith)

-- in order by their heads first, and in order
keys_rise : (begin : List ℕ) (hs : List Headed) → All (IsBehind begin) hs
    → IsStrictlySortedBy by_head hs → IsStrictlySortedBy (slice_cmp nat_cmp) (keys_under hs)
unfolding IsStrictlySortedBy
keys_rise begin [] all up = tt
keys_rise begin (h ∷ hs) all up =
    (above hs (All-head (IsBehind begin) h hs all) (All-tail (IsBehind begin) h hs all) up.0, keys_rise begin hs (All-tail (IsBehind begin) h hs all) up.1)
  where
    above : (ks : List Headed) → IsBehind begin h → All (IsBehind begin) ks
        → AllByRecursion (λ k. by_head h k ≡ Less) ks → AllByRecursion (λ k. slice_cmp nat_cmp h.key.now k ≡ Less) (keys_under ks)
    above [] p rest less = tt
    above (k ∷ ks) p rest less =
        (sym (by_heads begin h k p (All-head (IsBehind begin) k ks rest)) ∙ less.0, above ks p (All-tail (IsBehind begin) k ks rest) less.1)

-- what is left of keys that stand behind one
once_from : (q : List ℕ) (ks : List Headed) (h : Headed) → list_any (same_key q) (keys_under (dedup_from same_headed h ks)) ≡ (same_key q h.key.now || list_any (same_key q) (keys_under ks))
once_from q [] h = refl
once_from q (k ∷ ks) h = by (k.head == h.head) (same_key k.key.now h.key.now) (same_text k.key.now h.key.now) (once_from q ks h) (once_from q ks k)
  where
    again : (a c : Bool) → (a || c) ≡ (a || (a || c))
    again true c = refl
    again false c = refl

    by : (level same : Bool) → (true ≡ same → k.key.now ≡ h.key.now)
        → list_any (same_key q) (keys_under (dedup_from same_headed h ks)) ≡ (same_key q h.key.now || list_any (same_key q) (keys_under ks))
        → list_any (same_key q) (keys_under (dedup_from same_headed k ks)) ≡ (same_key q k.key.now || list_any (same_key q) (keys_under ks))
        → list_any (same_key q) (keys_under (cond (level && same) (dedup_from same_headed h ks) (h ∷ dedup_from same_headed k ks)))
        ≡ (same_key q h.key.now || (same_key q k.key.now || list_any (same_key q) (keys_under ks)))
    by true true is left right =
        left ∙ again (same_key q h.key.now) (list_any (same_key q) (keys_under ks))
        ∙ ap (λ j. same_key q h.key.now || (same_key q j || list_any (same_key q) (keys_under ks))) (sym (is refl))
    by true false is left right = ap (λ b. same_key q h.key.now || b) right
    by false same is left right = ap (λ b. same_key q h.key.now || b) right

-- each once, the same keys
pub each_once : (q : List ℕ) (hs : List Headed) → list_any (same_key q) (keys_under (dedup same_headed hs)) ≡ list_any (same_key q) (keys_under hs)
each_once q [] = refl
each_once q (h ∷ hs) = once_from q hs h

pub rises_once : (begin : List ℕ) (hs : List Headed) → All (IsBehind begin) hs → IsSorted by_head hs → IsStrictlySortedBy (slice_cmp nat_cmp) (keys_under (dedup same_headed hs))
rises_once begin hs all up =
    keys_rise begin (dedup same_headed hs) (All-dedup same_headed (IsBehind begin) hs all) (IsStrictlySortedBy-dedup by_head_total by_head_ties hs up)

-- one more
pub keys_push : (hs : List Headed) (h : Headed) → keys_under (hs ++ h ∷ []) ≡ keys_under hs ++ h.key.now ∷ []
keys_push [] h = refl
keys_push (j ∷ hs) h = ap (λ ks. j.key.now ∷ ks) (keys_push hs h)

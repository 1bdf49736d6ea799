-- A write to one chunk leaves the bytes of the others.
use Rattle.std.proofs.Common.{◌≡◌, ◌≢◌, ℕ, zero, suc, ◌+◌, ◌*◌, ◌/◌, ◌%◌, ◌-◌, ◌^◌, ◌<◌, ◌≤◌, ◌==◌, ◌⊎◌, inl, inr, true, false, if◌then◌else◌, List, [], ◌∷◌, ◌++◌, length, take, drop, get_or, Option, Some, None, slice_get, IsSome, IsSomeAnd, refl, sym, ap, ◌∙◌, arith, add-zero, zero-add, length-append, length-drop, replicate, subst, append_assoc, append-nil, Vec}
use Rattle.std.proofs.Math.ListN.{set, get_or-append}
use Rattle.std.proofs.Math.Nat.{mul-le-mul_left, mul-le-mul_right, div-add-mod}
use Rattle.std.proofs.lemmas.List.{drop-take, take-append-le, get_or-set_same, get_or-set_other, length-set, length-map, length-take, length-take-le, length-replicate}
use Rattle.std.proofs.lemmas.Option.{slice_get_within, slice_get_past}
use Rattle.std.proofs.lemmas.Bool.{cases_eq, cases_lt, cases_order, eq-eqb, eqb-true, false_from_ne_true}
use Rattle.std.proofs.lemmas.Slice.{take-put_mid_below, drop-put_mid, between-put_mid}
use Rattle.std.proofs.lemmas.Nat.{div_below, mod_below}
use borrow.Rule.Slice.PartMut.{put_mid}
use Rattle.std.specs.declared.alloc.Global.{Global}
use Rattle.std.specs.Int.{w32, from_be_bytes}
use Rattle.geo_slabs.specs.declared.«class».FreeChunks.{FreeChunks}
use Rattle.geo_slabs.specs.Chunks.{IsClass, HasLink, HoldsSoMany, bytes_of, read, chunks_from, free_cell, times, ListsFree, AllFit, AllReach, count_free, grown, with_fresh, placed, link, freed_from, freed_in, TakeDoes}

pub times-append : (k : ℕ) (xs ys : List ℕ) → times k (xs ++ ys) ≡ times k xs + times k ys
times-append k [] ys = omega arith
times-append k (x ∷ xs) ys = omega (arith, times-append k xs ys)

pub times-self : (k : ℕ) → times k (k ∷ []) ≡ 1
times-self k = grind (arith)

pub times-none : (k i : ℕ) → k ≢ i → times k (i ∷ []) ≡ 0
times-none k i h = grind (arith)

pub free_cell-pos : (o : Option (Option ℕ)) → 0 < free_cell o → o ≡ Some None
free_cell-pos None h = absurd (omega arith)
free_cell-pos (Some None) h = refl
free_cell-pos (Some (Some n)) h = absurd (omega arith)

times-first : (k : ℕ) (xs : List ℕ) → times k (k ∷ xs) ≡ 1 + times k xs
times-first k xs = omega (arith, times-append k (k ∷ []) xs, times-self k)

times-later : (k x : ℕ) (xs : List ℕ) → k ≢ x → times k (x ∷ xs) ≡ times k xs
times-later k x xs ne = omega (arith, times-append k (x ∷ []) xs, times-none k x ne)

-- a chunk that is listed is free
pub listed-free : (os : List (Option ℕ)) (free : List ℕ) (k : ℕ) → ListsFree os free → 0 < times k free → slice_get os k ≡ Some None
listed-free os free k h there = free_cell-pos (slice_get os k) (omega (arith, h k, there))

-- so is the first that is listed
pub first-free : (os : List (Option ℕ)) (rest : List ℕ) (i : ℕ) → ListsFree os (i ∷ rest) → slice_get os i ≡ Some None
first-free os rest i h = listed-free os (i ∷ rest) i h (omega (arith, times-first i rest))

-- the chunks that were freed are the same where each of them leads to the same
pub freed-same : (next next' : ℕ → ℕ) (last n : ℕ) → ((k : ℕ) → 0 < times k (freed_from next last n) → next' k ≡ next k) → freed_from next' last n ≡ freed_from next last n
freed-same next next' last zero same = refl
freed-same next next' last (suc n) same =
    let here : next' last ≡ next last = same last (omega (arith, times-first last (freed_from next (next last) n))) in
    rw here (ap (λ l. last ∷ l) (freed-same next next' (next last) n (λ k there.
    same k (omega (arith, times-append k (last ∷ []) (freed_from next (next last) n), there)))))

-- the last that was freed, and those before it
pub freed-more : (next : ℕ → ℕ) (free rest : FreeChunks) → free.freed ≡ rest.freed + 1 → rest.last ≡ next free.last → freed_in next free ≡ free.last ∷ freed_in next rest
freed-more next free rest many last =
    let more : free.freed ≡ suc rest.freed = omega (arith, many) in
    ap (freed_from next free.last) more ∙ ap (λ l. free.last ∷ freed_from next l rest.freed) (sym last)

shift : (j k : ℕ) → j + suc k ≡ suc j + k
shift j k = omega arith

pub chunks-same : (look look' : ℕ → ℕ → List ℕ) (j : ℕ) (os : List (Option ℕ)) → ((k m : ℕ) → slice_get os k ≡ Some (Some m) → look' (j + k) m ≡ look (j + k) m)
    → chunks_from look' j os ≡ chunks_from look j os
chunks-same look look' j [] h = refl
chunks-same look look' j (None ∷ os) h = ap (λ l. None ∷ l) (chunks-same look look' (suc j) os (λ k m e. rw (shift j k) at (h (suc k) m e)))
chunks-same look look' j (Some n ∷ os) h =
    let first : look' j n ≡ look j n = rw add-zero at (h zero n refl) in
    let more = chunks-same look look' (suc j) os (λ k m e. rw (shift j k) at (h (suc k) m e)) in cc

pub chunks-set : (look look' : ℕ → ℕ → List ℕ) (j : ℕ) (os : List (Option ℕ)) (i n : ℕ) (b : List ℕ) → i < length os → look' (j + i) n ≡ b
    → ((k m : ℕ) → k ≢ i → slice_get os k ≡ Some (Some m) → look' (j + k) m ≡ look (j + k) m)
    → chunks_from look' j (set os i (Some n)) ≡ set (chunks_from look j os) i (Some b)
chunks-set look look' j [] i n b lt e h = absurd (omega arith)
chunks-set look look' j (None ∷ os) zero n b lt e h =
    let first : look' j n ≡ b = rw add-zero at e in
    let more = chunks-same look look' (suc j) os (λ k m g. rw (shift j k) at (h (suc k) m (omega arith) g)) in cc
chunks-set look look' j (Some p ∷ os) zero n b lt e h =
    let first : look' j n ≡ b = rw add-zero at e in
    let more = chunks-same look look' (suc j) os (λ k m g. rw (shift j k) at (h (suc k) m (omega arith) g)) in cc
chunks-set look look' j (None ∷ os) (suc i) n b lt e h =
    ap (λ l. None ∷ l) (chunks-set look look' (suc j) os i n b (omega arith) (rw (shift j i) at e) (λ k m ne g. rw (shift j k) at (h (suc k) m (omega arith) g)))
chunks-set look look' j (Some p ∷ os) (suc i) n b lt e h =
    let first : look' j p ≡ look j p = rw add-zero at (h zero p (omega arith) refl) in
    let more = chunks-set look look' (suc j) os i n b (omega arith) (rw (shift j i) at e) (λ k m ne g. rw (shift j k) at (h (suc k) m (omega arith) g)) in cc

pub splice-same : (page bytes : List ℕ) (a : ℕ) → a + length bytes ≤ length page → take (length bytes) (drop a (put_mid a (length bytes) page bytes)) ≡ bytes
splice-same page bytes a fits =
    let n : (a + length bytes) - a ≡ length bytes = omega arith in
    rw n at (between-put_mid a (length bytes) page bytes (a + length bytes) (omega arith) (omega arith))

pub splice-other : (page bytes : List ℕ) (a b m : ℕ) → a + length bytes ≤ length page → (b + m ≤ a) ⊎ (a + length bytes ≤ b)
    → take m (drop b (put_mid a (length bytes) page bytes)) ≡ take m (drop b page)
splice-other page bytes a b m fits (inl below) =
    sym (drop-take b m (put_mid a (length bytes) page bytes)) ∙ ap (drop b) (take-put_mid_below a (length bytes) page bytes (b + m) below (omega arith)) ∙ drop-take b m page
splice-other page bytes a b m fits (inr above) = ap (take m) (drop-put_mid a (length bytes) page bytes b above (omega arith) refl)

pub apart : (x y size m n : ℕ) → x ≢ y → m ≤ size → n ≤ size → (x * size + m ≤ y * size) ⊎ (y * size + n ≤ x * size)
apart x y size m n ne hm hn = elim (cases_order x y) [
  | inl e ↦ absurd (ne e)
  | inr (inl lt) ↦ inl (omega (arith, mul-le-mul_right {m = x + 1} {n = y} size (omega arith)))
  | inr (inr gt) ↦ inr (omega (arith, mul-le-mul_right {m = y + 1} {n = x} size (omega arith)))
]

pub length-put_mid : (a : ℕ) (page bytes : List ℕ) → a + length bytes ≤ length page → length (put_mid a (length bytes) page bytes) ≡ length page
length-put_mid a page bytes h = simp (length-append, length-take, length-drop) (omega arith)

-- bytes within a page are the same once it has grown
between-grown : (page more : List ℕ) (b m : ℕ) → b + m ≤ length page → take m (drop b (page ++ more)) ≡ take m (drop b page)
between-grown page more b m h = sym (drop-take b m (page ++ more)) ∙ ap (drop b) (take-append-le (b + m) page more h) ∙ drop-take b m page

length-grown : (end : ℕ) (page : List ℕ) → length (grown end page) ≡ length page + (end - length page)
length-grown end page = omega (arith, length-append page (replicate (end - length page) 0), length-replicate {A = ℕ} (end - length page) 0)

module _ (size per : ℕ) (pages : List (List ℕ)) (i : ℕ) (bytes : List ℕ) where
  abbrev pub page_of : List ℕ
  page_of = get_or pages (i / per) []

  abbrev pub base : List ℕ
  base = grown ((i % per) * size + size) page_of

  abbrev pub written : List (List ℕ)
  written = set pages (i / per) (put_mid ((i % per) * size) (length bytes) base bytes)

  pub base-fits : length bytes ≤ size → (i % per) * size + length bytes ≤ length base
  base-fits h = omega (arith, h, length-grown ((i % per) * size + size) page_of)

  pub read-same : i / per < length pages → length bytes ≤ size → read size per written i (length bytes) ≡ bytes
  read-same lt h = rw (get_or-set_same pages (i / per) (put_mid ((i % per) * size) (length bytes) base bytes) [] lt)
      (splice-same base bytes ((i % per) * size) (base-fits h))

  pub read-other : (k m : ℕ) → k ≢ i → m ≤ size → length bytes ≤ size → i / per < length pages → (k % per) * size + m ≤ length (get_or pages (k / per) [])
      → read size per written k m ≡ read size per pages k m
  read-other k m ne hm hb lt within = elim (cases_eq (k / per) (i / per)) [
    | inl e ↦
        let apart_here : k % per ≢ i % per = λ r. ne (omega (arith, div-add-mod k per, div-add-mod i per, ap (λ q. per * q) e)) in
        let inside : (k % per) * size + m ≤ length page_of = rw e at within in
        rw (e, get_or-set_same pages (i / per) (put_mid ((i % per) * size) (length bytes) base bytes) [] lt)
        (
        splice-other base bytes ((i % per) * size) ((k % per) * size) m (base-fits hb) (apart (k % per) (i % per) size m (length bytes) apart_here hm hb)
        ∙ between-grown page_of (replicate (((i % per) * size + size) - length page_of) 0) ((k % per) * size) m inside
        )
    | inr d ↦ rw (get_or-set_other pages (i / per) (k / per) (put_mid ((i % per) * size) (length bytes) base bytes) [] d)
  ]

  length-written : length bytes ≤ size → length (put_mid ((i % per) * size) (length bytes) base bytes) ≡ length base
  length-written h = length-put_mid ((i % per) * size) base bytes (base-fits h)

  -- the chunk itself and those that were used before lie within their pages
  pub reach-after : (used used' : ℕ) → AllReach size per pages used → ((k : ℕ) → k < used' → k ≢ i → k < used) → i / per < length pages → length bytes ≤ size → AllReach size per written used'
  reach-after used used' reach others lt h k below = elim (cases_eq (k / per) (i / per)) [
    | inl e ↦ rw (e, get_or-set_same pages (i / per) (put_mid ((i % per) * size) (length bytes) base bytes) [] lt, length-written h) (elim (cases_eq k i) [
      | inl same ↦ rw same (omega (arith, length-grown ((i % per) * size + size) page_of))
      | inr ne ↦ let inside : (k % per) * size + size ≤ length page_of = rw e at (reach k (others k below ne)) in omega (arith, inside, length-grown ((i % per) * size + size) page_of)
    ])
    | inr d ↦ rw (get_or-set_other pages (i / per) (k / per) (put_mid ((i % per) * size) (length bytes) base bytes) [] d)
        (reach k (others k below (λ same. d (ap (λ n. n / per) same))))
  ]

pub slice_get-set_same : {X : Type 0} (xs : List X) (i : ℕ) (x : X) → i < length xs → slice_get (set xs i x) i ≡ Some x
slice_get-set_same [] i x h = absurd (omega arith)
slice_get-set_same (y ∷ xs) zero x h = refl
slice_get-set_same (y ∷ xs) (suc i) x h = slice_get-set_same xs i x (omega arith)

pub slice_get-set_other : {X : Type 0} (xs : List X) (i k : ℕ) (x : X) → k ≢ i → slice_get (set xs i x) k ≡ slice_get xs k
slice_get-set_other [] i k x h = refl
slice_get-set_other (y ∷ xs) zero zero x h = absurd (h refl)
slice_get-set_other (y ∷ xs) zero (suc k) x h = refl
slice_get-set_other (y ∷ xs) (suc i) zero x h = refl
slice_get-set_other (y ∷ xs) (suc i) (suc k) x h = slice_get-set_other xs i k x (omega arith)

pub cell-free : (look : ℕ → ℕ → List ℕ) (j : ℕ) (os : List (Option ℕ)) (k : ℕ) → slice_get os k ≡ Some None → slice_get (chunks_from look j os) k ≡ Some None
cell-free look j [] k h = cc
cell-free look j (None ∷ os) zero h = refl
cell-free look j (Some n ∷ os) zero h = cc
cell-free look j (None ∷ os) (suc k) h = cell-free look (suc j) os k h
cell-free look j (Some n ∷ os) (suc k) h = cell-free look (suc j) os k h

pub free-cell : (look : ℕ → ℕ → List ℕ) (j : ℕ) (os : List (Option ℕ)) (k : ℕ) → slice_get (chunks_from look j os) k ≡ Some None → slice_get os k ≡ Some None
free-cell look j [] k h = cc
free-cell look j (None ∷ os) zero h = refl
free-cell look j (Some n ∷ os) zero h = cc
free-cell look j (None ∷ os) (suc k) h = free-cell look (suc j) os k h
free-cell look j (Some n ∷ os) (suc k) h = free-cell look (suc j) os k h

no_times : (k : ℕ) (free : List ℕ) → length free ≡ 0 → times k free ≡ 0
no_times k [] h = refl
no_times k (x ∷ free) h = absurd (omega arith)

pub none-free : (look : ℕ → ℕ → List ℕ) (os : List (Option ℕ)) (free : List ℕ) → ListsFree os free → length free ≡ 0 → (k : ℕ) → slice_get (chunks_from look 0 os) k ≡ Some None → ⊥
none-free look os free h e k g = let one = ap free_cell (free-cell look 0 os k g) in omega (arith, h k, no_times k free e, one)

pub positive : (per size : ℕ) → per * size ≡ 1048576 → 0 < per
positive zero size h = absurd (omega arith)
positive (suc n) size h = omega arith

pub place-below : (per size l p i : ℕ) → per * size ≡ 1048576 → l ≡ per * p → i < l → i / per < p
place-below per size l p i h e lt = div_below i per p (positive per size h) (omega arith)

pub place-fits : (per size i n : ℕ) → per * size ≡ 1048576 → n ≤ size → (i % per) * size + n ≤ 1048576
place-fits per size i n h hn = omega (arith, mul-le-mul_right {m = i % per + 1} {n = per} size (omega (arith, mod_below i per (positive per size h))))

pub listed-after : (os : List (Option ℕ)) (rest : List ℕ) (i n : ℕ) → ListsFree os (i ∷ rest) → i < length os → ListsFree (set os i (Some n)) rest
listed-after os rest i n h lt k = elim (cases_eq k i) [
  | inl same ↦ rw same (let gone = ap free_cell (slice_get-set_same os i (Some n) lt) in
      omega (arith, gone, h i, times-first i rest, ap free_cell (first-free os rest i h)))
  | inr other ↦ let stays = ap free_cell (slice_get-set_other os i k (Some n) other) in
      omega (arith, stays, h k, times-later k i rest other)
]

pub fits-after : (size : ℕ) (os : List (Option ℕ)) (i n : ℕ) → AllFit size os → n ≤ size → i < length os → AllFit size (set os i (Some n))
fits-after size os i n h hn lt k m g = elim (cases_eq k i) [
  | inl same ↦ let here : Some (Some n) ≡ Some (Some m) = sym (slice_get-set_same os i (Some n) lt) ∙ (rw same at g) in
      let equal : n ≡ m = cc in omega arith
  | inr other ↦ h k m (sym (slice_get-set_other os i k (Some n) other) ∙ g)
]

pub count_free-set : (os : List (Option ℕ)) (i : ℕ) (o : Option ℕ) → i < length os → count_free (set os i o) + free_cell (slice_get os i) ≡ count_free os + free_cell (Some o)
count_free-set [] i o h = absurd (omega arith)
count_free-set (p ∷ os) zero o h = omega arith
count_free-set (p ∷ os) (suc i) o h = omega (arith, count_free-set os i o (omega arith))

pub count_free-le : (os : List (Option ℕ)) → count_free os ≤ length os
count_free-le [] = omega arith
count_free-le (None ∷ os) = omega (arith, count_free-le os)
count_free-le (Some n ∷ os) = omega (arith, count_free-le os)

-- a chunk that is held leaves room in the free list
pub count_free-lt : (os : List (Option ℕ)) (i n : ℕ) → slice_get os i ≡ Some (Some n) → count_free os < length os
count_free-lt [] i n h = cc
count_free-lt (None ∷ os) zero n h = cc
count_free-lt (Some m ∷ os) zero n h = omega (arith, count_free-le os)
count_free-lt (None ∷ os) (suc i) n h = omega (arith, count_free-lt os i n h)
count_free-lt (Some m ∷ os) (suc i) n h = omega (arith, count_free-lt os i n h)

pub chunks-drop : (look : ℕ → ℕ → List ℕ) (j : ℕ) (os : List (Option ℕ)) (i : ℕ) → chunks_from look j (set os i None) ≡ set (chunks_from look j os) i None
chunks-drop look j [] i = refl
chunks-drop look j (None ∷ os) zero = refl
chunks-drop look j (Some n ∷ os) zero = refl
chunks-drop look j (None ∷ os) (suc i) = ap (λ l. None ∷ l) (chunks-drop look (suc j) os i)
chunks-drop look j (Some n ∷ os) (suc i) = ap (λ l. Some (look j n) ∷ l) (chunks-drop look (suc j) os i)

-- the bytes of a cell that is held
pub held-cell : (look : ℕ → ℕ → List ℕ) (j : ℕ) (os : List (Option ℕ)) (i n : ℕ) → slice_get os i ≡ Some (Some n) → slice_get (chunks_from look j os) i ≡ Some (Some (look (j + i) n))
held-cell look j [] i n h = cc
held-cell look j (None ∷ os) zero n h = cc
held-cell look j (Some m ∷ os) zero n h = let e : m ≡ n = cc in rw (e, add-zero)
held-cell look j (None ∷ os) (suc i) n h = rw (shift j i) (held-cell look (suc j) os i n h)
held-cell look j (Some m ∷ os) (suc i) n h = rw (shift j i) (held-cell look (suc j) os i n h)

pub cell-held : (look : ℕ → ℕ → List ℕ) (j : ℕ) (os : List (Option ℕ)) (i : ℕ) → IsSomeAnd (slice_get (chunks_from look j os) i) IsSome → (n : ℕ) × (slice_get os i ≡ Some (Some n))
cell-held look j [] i h = absurd h
cell-held look j (None ∷ os) zero h = let e : false ≡ true = h in absurd cc
cell-held look j (Some m ∷ os) zero h = (m, refl)
cell-held look j (None ∷ os) (suc i) h = cell-held look (suc j) os i h
cell-held look j (Some m ∷ os) (suc i) h = cell-held look (suc j) os i h

pub listed-more : (os : List (Option ℕ)) (free : List ℕ) (i n : ℕ) → ListsFree os free → slice_get os i ≡ Some (Some n) → ListsFree (set os i None) (i ∷ free)
listed-more os free i n h e k = elim (cases_eq k i) [
  | inl same ↦ subst (λ j. times j (i ∷ free) ≡ free_cell (slice_get (set os i None) j)) (sym same) (let now = ap free_cell (slice_get-set_same os i None (slice_get_within os i (Some n) e)) in
      omega (arith, now, h i, ap free_cell e, times-first i free))
  | inr other ↦ let stays = ap free_cell (slice_get-set_other os i k None other) in
      omega (arith, stays, h k, times-later k i free other)
]

pub fits-drop : (size : ℕ) (os : List (Option ℕ)) (i : ℕ) → AllFit size os → i < length os → AllFit size (set os i None)
fits-drop size os i h lt k m g = elim (cases_eq k i) [
  | inl same ↦ let here : Some None ≡ Some (Some m) = sym (slice_get-set_same os i None lt) ∙ (rw same at g) in cc
  | inr other ↦ h k m (sym (slice_get-set_other os i k None other) ∙ g)
]

pub slice_get-left : {X : Type 0} (xs ys : List X) (k : ℕ) → k < length xs → slice_get (xs ++ ys) k ≡ slice_get xs k
slice_get-left [] ys k h = absurd (omega arith)
slice_get-left (x ∷ xs) ys zero h = refl
slice_get-left (x ∷ xs) ys (suc k) h = slice_get-left xs ys k (omega arith)

pub slice_get-nones : (os : List (Option ℕ)) (n k : ℕ) → length os ≤ k → k < length os + n → slice_get (os ++ replicate n None) k ≡ Some None
slice_get-nones [] zero k h lt = absurd (omega arith)
slice_get-nones [] (suc n) zero h lt = refl
slice_get-nones [] (suc n) (suc k) h lt = slice_get-nones [] n k (omega arith) (omega arith)
slice_get-nones (o ∷ os) n zero h lt = absurd (omega arith)
slice_get-nones (o ∷ os) n (suc k) h lt = slice_get-nones os n k (omega arith) (omega arith)

pub fits-page : (size : ℕ) (os : List (Option ℕ)) (n : ℕ) → AllFit size os → AllFit size (os ++ replicate n None)
fits-page size os n h k m g = elim (cases_lt k (length os)) [
  | inl lt ↦ h k m (sym (slice_get-left os (replicate n None) k lt) ∙ g)
  | inr ge ↦ elim (cases_lt k (length os + n)) [
    | inl lt ↦ let none = slice_get-nones os n k ge lt in cc
    | inr past ↦ let none = slice_get_past (os ++ replicate n None) k (omega (arith, length-append os (replicate n None), length-replicate {A = Option ℕ} n None)) in cc
  ]
]

pub count_free-page : (os : List (Option ℕ)) (n : ℕ) → count_free (os ++ replicate n None) ≡ count_free os + n
count_free-page [] zero = refl
count_free-page [] (suc n) = omega (arith, count_free-page [] n)
count_free-page (o ∷ os) n = omega (arith, count_free-page os n)

-- the chunks that were used, and behind them those that never were
pub length-with_fresh : (os : List (Option ℕ)) (many : ℕ) → length os ≤ many → length (with_fresh os many) ≡ many
length-with_fresh os many h = omega (arith, length-append os (replicate (many - length os) None), length-replicate {A = Option ℕ} (many - length os) None)

set-left : {X : Type 0} (xs ys : List X) (i : ℕ) (x : X) → i < length xs → set (xs ++ ys) i x ≡ set xs i x ++ ys
set-left [] ys i x lt = absurd (omega arith)
set-left (y ∷ xs) ys zero x lt = refl
set-left (y ∷ xs) ys (suc i) x lt = ap (λ l. y ∷ l) (set-left xs ys i x (omega arith))

pub with_fresh-set : (os : List (Option ℕ)) (many i : ℕ) (o : Option ℕ) → i < length os → with_fresh (set os i o) many ≡ set (with_fresh os many) i o
with_fresh-set os many i o lt = rw (length-set os i o) (sym (set-left os (replicate (many - length os) None) i o lt))

-- a chunk that is held was used
pub with_fresh-held : (os : List (Option ℕ)) (many k n : ℕ) → slice_get (with_fresh os many) k ≡ Some (Some n) → slice_get os k ≡ Some (Some n)
with_fresh-held os many k n g = elim (cases_lt k (length os)) [
  | inl lt ↦ sym (slice_get-left os (replicate (many - length os) None) k lt) ∙ g
  | inr ge ↦ elim (cases_lt k (length os + (many - length os))) [
    | inl lt ↦ let none = slice_get-nones os (many - length os) k ge lt in absurd cc
    | inr past ↦ let none = slice_get_past (with_fresh os many) k (omega (arith, length-append os (replicate (many - length os) None), length-replicate {A = Option ℕ} (many - length os) None)) in absurd cc
  ]
]

-- a chunk that was used and is free is free
pub with_fresh-free : (os : List (Option ℕ)) (many k : ℕ) → slice_get os k ≡ Some None → slice_get (with_fresh os many) k ≡ Some None
with_fresh-free os many k g = slice_get-left os (replicate (many - length os) None) k (slice_get_within os k None g) ∙ g

-- where all were used, there are no others
pub with_fresh-all : (os : List (Option ℕ)) (many : ℕ) → many ≤ length os → with_fresh os many ≡ os
with_fresh-all os many h = let none : many - length os ≡ 0 = omega arith in rw none (append-nil os)

replicate-add : (m n : ℕ) → replicate {A = Option ℕ} (m + n) None ≡ replicate m None ++ replicate n None
replicate-add zero n = rw zero-add refl
replicate-add (suc m) n = let e : suc m + n ≡ suc (m + n) = omega arith in rw e (ap (λ l. None ∷ l) (replicate-add m n))

pub with_fresh-more : (os : List (Option ℕ)) (many more : ℕ) → length os ≤ many → with_fresh os (many + more) ≡ with_fresh os many ++ replicate more None
with_fresh-more os many more h =
    let split : (many + more) - length os ≡ (many - length os) + more = omega arith in
    rw (split, replicate-add (many - length os) more) (sym (append_assoc os (replicate (many - length os) None) (replicate more None)))

listed-one : (os : List (Option ℕ)) (free : List ℕ) → ListsFree os free → ListsFree (os ++ None ∷ []) (length os ∷ free)
listed-one os free h k = elim (cases_order k (length os)) [
  | inl e ↦ subst (λ j. times j (length os ∷ free) ≡ free_cell (slice_get (os ++ None ∷ []) j)) (sym e) (omega (
    arith,
    times-first (length os) free,
    h (length os),
    ap free_cell (slice_get_past os (length os) (omega arith)),
    ap free_cell (slice_get-nones os 1 (length os) (omega arith) (omega arith)),
  ))
  | inr (inl lt) ↦ omega (arith, times-later k (length os) free (omega arith), h k, ap free_cell (slice_get-left os (None ∷ []) k lt))
  | inr (inr gt) ↦ omega (
    arith,
    times-later k (length os) free (omega arith),
    h k,
    ap free_cell (slice_get_past os k (omega arith)),
    ap free_cell (slice_get_past (os ++ None ∷ []) k (omega (arith, length-append os (None ∷ [])))),
  )
]

-- the chunks that were used, the one that is taken among them
abbrev pub readied : List (Option ℕ) → ℕ → List (Option ℕ)
readied os i = if i == length os then os ++ None ∷ [] else os

readied-new : (os : List (Option ℕ)) (i : ℕ) → i ≡ length os → readied os i ≡ os ++ None ∷ []
readied-new os i e = ap (λ b. if b then os ++ None ∷ [] else os) (eq-eqb i (length os) e)

is-other : (i n : ℕ) → i ≢ n → (i == n) ≡ false
is-other i n ne = false_from_ne_true (i == n) (λ yes. ne (eqb-true i n yes))

readied-old : (os : List (Option ℕ)) (i : ℕ) → i < length os → readied os i ≡ os
readied-old os i lt = ap (λ b. if b then os ++ None ∷ [] else os) (is-other i (length os) (omega arith))

set-last : (os : List (Option ℕ)) (o : Option ℕ) → set (os ++ None ∷ []) (length os) o ≡ os ++ o ∷ []
set-last [] o = refl
set-last (p ∷ os) o = ap (λ l. p ∷ l) (set-last os o)

pub placed-old : (os : List (Option ℕ)) (i : ℕ) (o : Option ℕ) → i < length os → placed os i o ≡ set os i o
placed-old os i o lt = ap (λ b. if b then os ++ o ∷ [] else set os i o) (is-other i (length os) (omega arith))

placed-new : (os : List (Option ℕ)) (i : ℕ) (o : Option ℕ) → i ≡ length os → placed os i o ≡ os ++ o ∷ []
placed-new os i o e = ap (λ b. if b then os ++ o ∷ [] else set os i o) (eq-eqb i (length os) e)

-- what holds once a chunk is taken, whether it was freed or never used
pub record IsReady (next : ℕ → ℕ) (size many : ℕ) (os : List (Option ℕ)) (rest : FreeChunks) (i : ℕ) : Type 0 where
  pub listed : ListsFree (readied os i) (i ∷ freed_in next rest)
  pub fit : AllFit size (readied os i)
  pub used : rest.used ≡ length (readied os i)
  pub counted : rest.freed + 1 ≡ count_free (readied os i)
  pub within : length (readied os i) ≤ many
  pub same : with_fresh (readied os i) many ≡ with_fresh os many
  pub free : slice_get (readied os i) i ≡ Some None
  pub others : (k : ℕ) → k < length (readied os i) → k ≢ i → k < length os
  pub place : (o : Option ℕ) → placed os i o ≡ set (readied os i) i o

pub ready : (next : ℕ → ℕ) (size many : ℕ) (os : List (Option ℕ)) (free rest : FreeChunks) (i : ℕ) → ListsFree os (freed_in next free) → AllFit size os
    → free.freed ≡ count_free os → free.used ≡ length os → length os ≤ many → TakeDoes next many free (Some (i, rest)) → IsReady next size many os rest i
ready next size many os free rest i listed fit counted used within (inl (last, fewer, before, same)) =
    let chain : freed_in next free ≡ i ∷ freed_in next rest = freed-more next free rest fewer before ∙ ap (λ l. l ∷ freed_in next rest) (sym last) in
    let known : ListsFree os (i ∷ freed_in next rest) = subst (ListsFree os) chain listed in
    let empty : slice_get os i ≡ Some None = first-free os (freed_in next rest) i known in
    let below : i < length os = slice_get_within os i None empty in
    let old : readied os i ≡ os = readied-old os i below in
    record {
      listed = rw old known;
      fit = rw old fit;
      used = rw old (same ∙ used);
      counted = rw old (omega (arith, counted, fewer));
      within = rw old within;
      same = rw old refl;
      free = rw old empty;
      others = λ k lt ne. rw old at lt;
      place = λ o. rw old (placed-old os i o below);
    }
ready next size many os free rest i listed fit counted used within (inr (none, none', fresh, lt, more)) =
    let next_is : i ≡ length os = fresh ∙ used in
    let new : readied os i ≡ os ++ None ∷ [] = readied-new os i next_is in
    let one : many - length os ≡ suc (many - (length os + 1)) = omega (arith, next_is, lt) in
    let longer : length (os ++ None ∷ []) ≡ length os + 1 = length-append os (None ∷ []) in
    let empty_before : freed_in next free ≡ [] = ap (freed_from next free.last) none in
    let empty_after : freed_in next rest ≡ [] = ap (freed_from next rest.last) none' in
    record {
      listed = rw (new, empty_after, next_is) (listed-one os [] (subst (ListsFree os) empty_before listed));
      fit = rw new (fits-page size os 1 fit);
      used = rw new (omega (arith, more, used, longer));
      counted = rw new (omega (arith, none, none', counted, count_free-page os 1));
      within = rw new (omega (arith, longer, next_is, lt));
      same = rw (new, longer, one) (append_assoc os (None ∷ []) (replicate (many - (length os + 1)) None));
      free = rw (new, next_is) (slice_get-nones os 1 (length os) (omega arith) (omega arith));
      others = λ k below ne. omega (arith, below, ne, ap length new, longer, next_is);
      place = λ o. rw (new, placed-new os i o next_is, next_is) (sym (set-last os o));
    }

-- what is known of the chunk that is taken
pub record IsTaken (size per : ℕ) (pages : List (List ℕ)) (os : List (Option ℕ)) (i : ℕ) : Type 0 where
  pub whole : per * size ≡ 1048576
  pub many : length os ≡ per * length pages
  pub lengths : AllFit size os
  pub within : (k m : ℕ) → slice_get os k ≡ Some (Some m) → (k % per) * size + m ≤ length (get_or pages (k / per) [])
  pub free : slice_get os i ≡ Some None

module _ {size per : ℕ} {pages : List (List ℕ)} {os : List (Option ℕ)} {i : ℕ} (t : IsTaken size per pages os i) where
  pub taken-below : i < length os
  taken-below = slice_get_within os i None t.free

  pub taken-page : i / per < length pages
  taken-page = place-below per size (length os) (length pages) i t.whole t.many taken-below

  pub taken-chunks : (bytes : List ℕ) → length bytes ≤ size
      → chunks_from (read size per (written size per pages i bytes)) 0 (set os i (Some (length bytes))) ≡ set (chunks_from (read size per pages) 0 os) i (Some bytes)
  taken-chunks bytes h =
      chunks-set (read size per pages) (read size per (written size per pages i bytes)) 0 os i (length bytes) bytes taken-below
      (rw zero-add (read-same size per pages i bytes taken-page h))
      (λ k m ne g. rw zero-add (read-other size per pages i bytes k m ne (t.lengths k m g) h taken-page (t.within k m g)))

-- what is known of a chunk that is held
pub record IsHeldAt (size per many : ℕ) (pages : List (List ℕ)) (os : List (Option ℕ)) (i : ℕ) : Type 0 where
  pub len : ℕ
  pub is : slice_get os i ≡ Some (Some len)
  pub below : i < length os
  pub page : i / per < length pages
  pub fits : (i % per) * size + len ≤ 1048576
  pub within : (i % per) * size + len ≤ length (get_or pages (i / per) [])
  pub shows : slice_get (chunks_from (read size per pages) 0 (with_fresh os many)) i ≡ Some (Some (read size per pages i len))

pub held-at : (size per many : ℕ) (pages : List (List ℕ)) (os : List (Option ℕ)) (i : ℕ) → per * size ≡ 1048576 → many ≡ per * length pages → length os ≤ many → AllFit size os → AllReach size per pages (length os)
    → IsSomeAnd (slice_get (chunks_from (read size per pages) 0 (with_fresh os many)) i) IsSome → IsHeldAt size per many pages os i
held-at size per many pages os i whole all used lengths reach h =
    let found = cell-held (read size per pages) 0 (with_fresh os many) i h in
    let is : slice_get os i ≡ Some (Some found.0) = with_fresh-held os many i found.0 found.1 in
    let below : i < length os = slice_get_within os i (Some found.0) is in
    let page : i / per < length pages = place-below per size many (length pages) i whole all (omega (arith, below, used)) in
    let fits : (i % per) * size + found.0 ≤ 1048576 = place-fits per size i found.0 whole (lengths i found.0 is) in
    record {
      len = found.0;
      is = is;
      below = below;
      page = page;
      fits = fits;
      within = omega (arith, reach i below, lengths i found.0 is);
      shows = rw zero-add at (held-cell (read size per pages) 0 (with_fresh os many) i found.0 found.1);
    }

-- other bytes in a chunk that is held
module _ {size per many : ℕ} {pages : List (List ℕ)} {os : List (Option ℕ)} {i : ℕ} (h : IsHeldAt size per many pages os i) where
  pub listed-replaced : (free : List ℕ) (n : ℕ) → ListsFree os free → ListsFree (set os i (Some n)) free
  listed-replaced free n listed k = elim (cases_eq k i) [
    | inl same ↦ rw same (listed i ∙ ap free_cell h.is ∙ sym (ap free_cell (slice_get-set_same os i (Some n) h.below)))
    | inr ne ↦ listed k ∙ sym (ap free_cell (slice_get-set_other os i k (Some n) ne))
  ]

  pub counted-replaced : (n : ℕ) → count_free (set os i (Some n)) ≡ count_free os
  counted-replaced n = omega (arith, count_free-set os i (Some n) h.below, ap free_cell h.is)

  pub chunks-replaced : (bytes : List ℕ) → length bytes ≤ size → length os ≤ many → AllFit size os → AllReach size per pages (length os)
      → chunks_from (read size per (written size per pages i bytes)) 0 (with_fresh (set os i (Some (length bytes))) many) ≡ set (chunks_from (read size per pages) 0 (with_fresh os many)) i (Some bytes)
  chunks-replaced bytes fits used lengths reach =
      ap (chunks_from (read size per (written size per pages i bytes)) 0) (with_fresh-set os many i (Some (length bytes)) h.below)
      ∙ chunks-set (read size per pages) (read size per (written size per pages i bytes)) 0 (with_fresh os many) i (length bytes) bytes
      (omega (arith, h.below, used, length-with_fresh os many used))
      (rw zero-add (read-same size per pages i bytes h.page fits))
      (λ k m ne g.
      let was : slice_get os k ≡ Some (Some m) = with_fresh-held os many k m g in
      rw zero-add (read-other size per pages i bytes k m ne (lengths k m was) fits h.page (omega (arith, reach k (slice_get_within os k (Some m) was), lengths k m was))))

  -- it is freed, and something is written into it
  pub chunks-freed : (bytes : List ℕ) → length bytes ≤ size → length os ≤ many → AllFit size os → AllReach size per pages (length os)
      → chunks_from (read size per (written size per pages i bytes)) 0 (with_fresh (set os i None) many) ≡ set (chunks_from (read size per pages) 0 (with_fresh os many)) i None
  chunks-freed bytes fits used lengths reach =
      chunks-same (read size per pages) (read size per (written size per pages i bytes)) 0 (with_fresh (set os i None) many) (λ k m g.
      let still : slice_get (set os i None) k ≡ Some (Some m) = with_fresh-held (set os i None) many k m g in
      let other : k ≢ i = λ e. let gone : slice_get (set os i None) k ≡ Some None = rw e (slice_get-set_same os i None h.below) in absurd cc in
      let was : slice_get os k ≡ Some (Some m) = sym (slice_get-set_other os i k None other) ∙ still in
      rw zero-add (read-other size per pages i bytes k m other (lengths k m was) fits h.page (omega (arith, reach k (slice_get_within os k (Some m) was), lengths k m was))))
      ∙ ap (chunks_from (read size per pages) 0) (with_fresh-set os many i None h.below)
      ∙ chunks-drop (read size per pages) 0 (with_fresh os many) i

  -- how many bytes it holds
  pub held-many : (long : ℕ) → HoldsSoMany long (slice_get (chunks_from (read size per pages) 0 (with_fresh os many)) i) → h.len ≡ long
  held-many long so =
      let many_are : length (read size per pages i h.len) ≡ long = subst (HoldsSoMany long) h.shows so in
      let left : length (drop ((i % per) * size) (get_or pages (i / per) [])) ≡ length (get_or pages (i / per) []) - (i % per) * size = length-drop ((i % per) * size) (get_or pages (i / per) []) in
      let all : length (read size per pages i h.len) ≡ h.len = length-take-le h.len (drop ((i % per) * size) (get_or pages (i / per) [])) (omega (arith, left, h.within)) in
      sym all ∙ many_are

pub holds-some : (long : ℕ) (cell : Option (Option (List ℕ))) → HoldsSoMany long cell → IsSomeAnd cell IsSome
holds-some long None h = absurd h
holds-some long (Some None) h = absurd h
holds-some long (Some (Some held)) h = refl

-- the same, told of a class
module _ (pages : List (Vec ℕ Global)) {size per most : ℕ} {os : List (Option ℕ)} {free : FreeChunks} {has_pages : ℕ} (is : IsClass size per most pages os free has_pages) where
  abbrev next : ℕ → ℕ
  next = link size per (bytes_of pages)

  pub class-many : per * length pages ≡ per * length (bytes_of pages)
  class-many = ap (λ n. per * n) (sym (length-map pages (λ p. p.items)))

  pub class-used : length os ≤ per * length pages
  class-used = omega (arith, is.many, class-many)

  pub class-few : per * length pages < 2 ^ 32
  class-few =
      let within : per * length (bytes_of pages) ≤ per * most = mul-le-mul_left per is.within in
      omega (arith, is.numbered, within, class-many)

  pub class-held : (i : ℕ) → IsSomeAnd (slice_get (chunks_from (read size per (bytes_of pages)) 0 (with_fresh os (per * length pages))) i) IsSome
      → IsHeldAt size per (per * length pages) (bytes_of pages) os i
  class-held i h = held-at size per (per * length pages) (bytes_of pages) os i is.whole class-many class-used is.fit is.reach h

  -- a chunk that was used has its first four bytes
  used-linked : (k : ℕ) → k < length os → HasLink size per (bytes_of pages) k
  used-linked k below = record {
    page = place-below per size (per * length (bytes_of pages)) (length (bytes_of pages)) k is.whole refl (omega (arith, below, is.many));
    within = omega (arith, is.reach k below, is.least);
  }

  pub class-linked : 0 < free.freed → HasLink size per (bytes_of pages) free.last
  class-linked some = linked-by free.freed some refl where
    linked-by : (n : ℕ) → 0 < n → free.freed ≡ n → HasLink size per (bytes_of pages) free.last
    linked-by zero lt e = absurd (omega (arith, lt))
    linked-by (suc n) lt e =
        let known : ListsFree os (free.last ∷ freed_from next (next free.last) n) = subst (λ m. ListsFree os (freed_from next free.last m)) e is.listed in
        used-linked free.last (slice_get_within os free.last None (first-free os (freed_from next (next free.last) n) free.last known))

  pub class-ready : (rest : FreeChunks) (i : ℕ) → TakeDoes next (per * length pages) free (Some (i, rest)) → IsReady next size (per * length pages) os rest i
  class-ready rest i does = ready next size (per * length pages) os free rest i is.listed is.fit is.counted is.used class-used does

  pub class-taken : (rest : FreeChunks) (i : ℕ) → IsReady next size (per * length pages) os rest i → IsTaken size per (bytes_of pages) (with_fresh (readied os i) (per * length pages)) i
  class-taken rest i r = record {
    whole = is.whole;
    many = length-with_fresh (readied os i) (per * length pages) r.within ∙ class-many;
    lengths = fits-page size (readied os i) ((per * length pages) - length (readied os i)) r.fit;
    within = λ k m g.
        let used : slice_get os k ≡ Some (Some m) = with_fresh-held os (per * length pages) k m (rw r.same at g) in
        omega (arith, is.reach k (slice_get_within os k (Some m) used), is.fit k m used);
    free = with_fresh-free (readied os i) (per * length pages) i r.free;
  }

  pub class-full : TakeDoes next (per * length pages) free None
      → (k : ℕ) → slice_get (chunks_from (read size per (bytes_of pages)) 0 (with_fresh os (per * length pages))) k ≡ Some None → ⊥
  class-full (none, all) k h =
      none-free (read size per (bytes_of pages)) os (freed_in next free) is.listed (ap (λ n. length (freed_from next free.last n)) none) k
      (rw (with_fresh-all os (per * length pages) (omega (arith, all, is.used))) at h)

  -- chunks that were freed still lead to one another once something is written into another chunk
  pub freed-kept : (i : ℕ) (bytes : List ℕ) (last n : ℕ) → i / per < length (bytes_of pages) → length bytes ≤ size
      → ((k : ℕ) → 0 < times k (freed_from next last n) → (k ≢ i) × (k < length os))
      → freed_from (link size per (written size per (bytes_of pages) i bytes)) last n ≡ freed_from next last n
  freed-kept i bytes last n page fits apart_from = freed-same next (link size per (written size per (bytes_of pages) i bytes)) last n (λ k there.
      let other = apart_from k there in
      ap (from_be_bytes w32) (read-other size per (bytes_of pages) i bytes k 4 other.0 is.least fits page (omega (arith, is.reach k other.1, is.least))))

  -- those that are left once a chunk is taken
  pub left-apart : (rest : FreeChunks) (i : ℕ) → IsReady next size (per * length pages) os rest i → (k : ℕ) → 0 < times k (freed_in next rest) → (k ≢ i) × (k < length os)
  left-apart rest i r k there =
      let listed_too : 0 < times k (i ∷ freed_in next rest) = omega (arith, times-append k (i ∷ []) (freed_in next rest), there) in
      let empty : slice_get (readied os i) k ≡ Some None = listed-free (readied os i) (i ∷ freed_in next rest) k r.listed listed_too in
      let other : k ≢ i = λ e. let once = r.listed k in
      let twice : times k (i ∷ freed_in next rest) ≡ 1 + times k (freed_in next rest) =
      subst (λ j. times j (i ∷ freed_in next rest) ≡ 1 + times j (freed_in next rest)) (sym e) (times-first i (freed_in next rest)) in
      absurd (omega (arith, once, twice, there, ap free_cell empty)) in
      (other, r.others k (slice_get_within (readied os i) k None empty) other)

  -- those that are free, beside a chunk that is held
  pub freed-apart : (i n : ℕ) → slice_get os i ≡ Some (Some n) → (k : ℕ) → 0 < times k (freed_in next free) → (k ≢ i) × (k < length os)
  freed-apart i n held k there =
      let empty : slice_get os k ≡ Some None = listed-free os (freed_in next free) k is.listed there in
      ((λ e. let same : slice_get os k ≡ Some (Some n) = rw e held in absurd cc), slice_get_within os k None empty)

  -- a chunk that is freed comes before those that were, to the last of which it leads
  pub freed-again : (i n : ℕ) (bytes : List ℕ) → slice_get os i ≡ Some (Some n) → i / per < length (bytes_of pages) → length bytes ≤ size → length bytes ≡ 4 → from_be_bytes w32 bytes ≡ free.last
      → freed_from (link size per (written size per (bytes_of pages) i bytes)) i (free.freed + 1) ≡ i ∷ freed_in next free
  freed-again i n bytes held page fits four back =
      let after : ℕ → ℕ = link size per (written size per (bytes_of pages) i bytes) in
      let leads : after i ≡ free.last =
      ap (λ m. from_be_bytes w32 (read size per (written size per (bytes_of pages) i bytes) i m)) (sym four)
      ∙ ap (from_be_bytes w32) (read-same size per (bytes_of pages) i bytes page fits)
      ∙ back in
      let more : free.freed + 1 ≡ suc free.freed = omega arith in
      ap (freed_from after i) more
      ∙ ap (λ l. i ∷ freed_from after l free.freed) leads
      ∙ ap (λ l. i ∷ l) (freed-kept i bytes free.last free.freed page fits (freed-apart i n held))

-- a page that comes
chunks-none : (look : ℕ → ℕ → List ℕ) (j n : ℕ) → chunks_from look j (replicate n None) ≡ replicate n None
chunks-none look j zero = refl
chunks-none look j (suc n) = ap (λ l. None ∷ l) (chunks-none look (suc j) n)

pub chunks-more : (look : ℕ → ℕ → List ℕ) (j : ℕ) (os : List (Option ℕ)) (n : ℕ) → chunks_from look j (os ++ replicate n None) ≡ chunks_from look j os ++ replicate n None
chunks-more look j [] n = chunks-none look j n
chunks-more look j (None ∷ os) n = ap (λ l. None ∷ l) (chunks-more look (suc j) os n)
chunks-more look j (Some m ∷ os) n = ap (λ l. Some (look j m) ∷ l) (chunks-more look (suc j) os n)

-- the chunks once a page is there
pub chunks-page : (size per : ℕ) (pages : List (List ℕ)) (page : List ℕ) (os : List (Option ℕ)) → per * size ≡ 1048576 → length os ≡ per * length pages
    → chunks_from (read size per (pages ++ page ∷ [])) 0 (os ++ replicate per None) ≡ chunks_from (read size per pages) 0 os ++ replicate per None
chunks-page size per pages page os whole many =
    chunks-more (read size per (pages ++ page ∷ [])) 0 os per
    ∙ ap (λ l. l ++ replicate per None) (chunks-same (read size per pages) (read size per (pages ++ page ∷ [])) 0 os (λ k m g. rw zero-add
    (ap (λ p. take m (drop ((k % per) * size) p)) (get_or-append pages (page ∷ []) [] (k / per) (place-below per size (length os) (length pages) k whole many (slice_get_within os k (Some m) g))))))

pub reach-page : (size per : ℕ) (pages : List (List ℕ)) (page : List ℕ) (used : ℕ) → per * size ≡ 1048576 → used ≤ per * length pages → AllReach size per pages used → AllReach size per (pages ++ page ∷ []) used
reach-page size per pages page used whole le reach k below =
    rw (get_or-append pages (page ∷ []) [] (k / per) (place-below per size (per * length pages) (length pages) k whole refl (omega (arith, below, le)))) (reach k below)

-- the chunks that were freed lead to one another as before
pub listed-page : (pages : List (Vec ℕ Global)) (page : List ℕ) {size per most : ℕ} {os : List (Option ℕ)} {free : FreeChunks} {has_pages : ℕ} → IsClass size per most pages os free has_pages
    → ListsFree os (freed_in (link size per (bytes_of pages ++ page ∷ [])) free)
listed-page pages page {size = size} {per = per} {os = os} {free = free} is =
    let same : freed_in (link size per (bytes_of pages ++ page ∷ [])) free ≡ freed_in (link size per (bytes_of pages)) free =
    freed-same (link size per (bytes_of pages)) (link size per (bytes_of pages ++ page ∷ [])) free.last free.freed (λ k there.
    let empty : slice_get os k ≡ Some None = listed-free os (freed_in (link size per (bytes_of pages)) free) k is.listed there in
    let below : k < length os = slice_get_within os k None empty in
    ap (λ p. from_be_bytes w32 (take 4 (drop ((k % per) * size) p))) (get_or-append (bytes_of pages) (page ∷ []) [] (k / per)
    (place-below per size (per * length (bytes_of pages)) (length (bytes_of pages)) k is.whole refl (omega (arith, below, is.many))))) in
    subst (ListsFree os) (sym same) is.listed

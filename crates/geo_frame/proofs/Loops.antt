-- Reading one thing after the other, as a loop does.
use Rattle.std.proofs.Common.{◌≡◌, ℕ, suc, ◌+◌, ◌-◌, ◌<◌, ◌≤◌, max, List, [], ◌∷◌, ◌++◌, length, get_or, take, Ok, Err, refl, sym, ap, ◌∙◌, append_assoc, arith}
use Rattle.std.proofs.lemmas.List.{append-nil, length-append}
use Rattle.std.specs.List.{flat_map}
use Rattle.std.proofs.lemmas.List.{take_more}
use Rattle.std.proofs.lemmas.List.Concat.{flat_map-cons}
use Rattle.std.proofs.lemmas.Grind.{flat_map-append}
use Rattle.geo_stamp.specs.Vectors.{zeros, raised, entry_of}
use Rattle.geo_versions.specs.Maps.{Rec}
use Rattle.geo_frame.specs.Spelling.{eight}
use Rattle.geo_frame.specs.declared.fault.FrameFault.{FrameFault}
use Rattle.geo_frame.specs.declared.fault.FrameFault.TheVariants.{Short, Magic, Version, Field, Order, Damaged, Trailing, Memory}
use Rattle.geo_frame.specs.Reading.{◌>>=◌, Read, Fails, time_at, vector_at, record_at, records_at, last_key}

-- what was read before, and what is still read
abbrev pub with_front : {A : Type 0} → List A → Read (List A) → Read (List A)
with_front front read = read >>= λ x. Ok (front ++ x.0, x.1)

regroup : {A : Type 0} (front : List A) (a : A) (read : Read (List A)) → with_front front (read >>= λ x. Ok (a ∷ x.0, x.1)) ≡ with_front (front ++ a ∷ []) read
regroup {A} front a (Ok x) = ap (λ (xs : List A). Ok (xs, x.1)) (simp append_assoc)
regroup front a (Err f) = refl

-- ---- vectors

raised_next : (front : List ℕ) (k t : ℕ) → raised (front ++ zeros (suc k)) (suc (length front)) t ≡ (front ++ t ∷ []) ++ zeros k
raised_next [] k t = let e : max 0 t ≡ t = omega arith in ap (λ (x : ℕ). x ∷ zeros k) e
raised_next (x ∷ front) k t = ap (λ (ys : List ℕ). x ∷ ys) (raised_next front k t)

-- so many entries of the vector stand, and the others are 0
pub record VectorSoFar (sites before : ℕ) (v bytes : List ℕ) (total : Read (List ℕ)) : Type 0 where
  pub front : List ℕ
  pub parts : v ≡ front ++ zeros (sites - before)
  pub many : length front ≡ before
  pub reads : with_front front (vector_at (sites - before) bytes) ≡ total

pub vector_starts : (sites : ℕ) (v bytes : List ℕ) → v ≡ zeros sites → VectorSoFar sites 0 v bytes (vector_at sites bytes)
vector_starts sites v bytes e =
    let k : sites - 0 ≡ sites = omega arith in
    record { front = []; parts = rw k e; many = refl; reads = rw k (same (vector_at sites bytes)) }
  where
    same : (read : Read (List ℕ)) → with_front [] read ≡ read
    same (Ok x) = refl
    same (Err f) = refl

pub vector_goes_on : (sites before : ℕ) (v w bytes after : List ℕ) (t : ℕ) (total : Read (List ℕ)) → before < sites → time_at bytes ≡ Ok (t, after) → w ≡ raised v (before + 1) t
    → VectorSoFar sites before v bytes total → VectorSoFar sites (before + 1) w after total
unfolding vector_at
vector_goes_on sites before v w bytes after t total lt h e so_far =
    let k : sites - before ≡ suc (sites - (before + 1)) = omega arith in
    let n : before + 1 ≡ suc (length so_far.front) = omega (arith, so_far.many) in
    let one : with_front so_far.front (vector_at (sites - before) bytes) ≡ with_front (so_far.front ++ t ∷ []) (vector_at (sites - (before + 1)) after) = rw (k, h) (regroup so_far.front t (vector_at (sites - (before + 1)) after)) in
    let parts : v ≡ so_far.front ++ zeros (suc (sites - (before + 1))) = so_far.parts ∙ ap (λ (m : ℕ). so_far.front ++ zeros m) k in
    record {
      front = so_far.front ++ t ∷ [];
      parts = e ∙ (λ i. raised (parts i) (n i) t) ∙ raised_next so_far.front (sites - (before + 1)) t;
      many = omega (arith, length-append so_far.front (t ∷ []), so_far.many);
      reads = sym one ∙ so_far.reads;
    }

pub vector_ends : (sites before : ℕ) (v bytes : List ℕ) (f : FrameFault) (total : Read (List ℕ)) → before < sites → time_at bytes ≡ Err f → VectorSoFar sites before v bytes total → total ≡ Err f
unfolding vector_at
vector_ends sites before v bytes f total lt h so_far =
    let k : sites - before ≡ suc (sites - (before + 1)) = omega arith in
    let one : with_front so_far.front (vector_at (sites - before) bytes) ≡ Err f = rw (k, h) refl in
    sym so_far.reads ∙ one

pub vector_done : (sites before : ℕ) (v bytes : List ℕ) (total : Read (List ℕ)) → sites ≤ before → VectorSoFar sites before v bytes total → total ≡ Ok (v, bytes)
unfolding vector_at
vector_done sites before v bytes total le so_far =
    let k : sites - before ≡ 0 = omega arith in
    let whole : v ≡ so_far.front ++ [] = so_far.parts ∙ ap (λ (m : ℕ). so_far.front ++ zeros m) k in
    let one : with_front so_far.front (vector_at (sites - before) bytes) ≡ Ok (v, bytes) = rw k (ap (λ (w : List ℕ). Ok (w, bytes)) (sym whole)) in
    sym so_far.reads ∙ one

-- ---- records

pub last_is : (rs : List (List ℕ × Rec)) (d : List ℕ × Rec) → 1 ≤ length rs → last_key rs ≡ (get_or rs (length rs - 1) d).0
last_is [] d h = absurd (omega arith)
last_is (e ∷ []) d h = refl
last_is (e ∷ f ∷ es) d h =
    let k : length (e ∷ f ∷ es) - 1 ≡ suc (length (f ∷ es) - 1) = omega arith in
    last_is (f ∷ es) d (omega arith) ∙ ap (λ (i : ℕ). (get_or (e ∷ f ∷ es) i d).0) (sym k)

last_more : (rs : List (List ℕ × Rec)) (r : List ℕ × Rec) → last_key (rs ++ r ∷ []) ≡ r.0
last_more [] r = refl
last_more (e ∷ []) r = refl
last_more (e ∷ f ∷ es) r = last_more (f ∷ es) r

abbrev pub RecordsSoFar : ℕ → ℕ → ℕ → List (List ℕ × Rec) → List ℕ → Read (List (List ℕ × Rec)) → Type 0
RecordsSoFar n count i rs bytes total = with_front rs (records_at n (count - i) (last_key rs) bytes) ≡ total

pub records_start : (n count : ℕ) (rs : List (List ℕ × Rec)) (bytes : List ℕ) → rs ≡ [] → RecordsSoFar n count 0 rs bytes (records_at n count [] bytes)
records_start n count rs bytes e =
    let k : count - 0 ≡ count = omega arith in
    rw (e, k) (same (records_at n count [] bytes))
  where
    same : (read : Read (List (List ℕ × Rec))) → with_front [] read ≡ read
    same (Ok x) = refl
    same (Err f) = refl

pub records_go_on : (n count i : ℕ) (rs new : List (List ℕ × Rec)) (bytes after : List ℕ) (r : List ℕ × Rec) (total : Read (List (List ℕ × Rec))) → i < count → record_at n (last_key rs) bytes ≡ Ok (r, after) → new ≡ rs ++ r ∷ []
    → RecordsSoFar n count i rs bytes total → RecordsSoFar n count (i + 1) new after total
unfolding records_at
records_go_on n count i rs new bytes after r total lt h e so_far =
    let k : count - i ≡ suc (count - (i + 1)) = omega arith in
    let one : with_front rs (records_at n (count - i) (last_key rs) bytes) ≡ with_front (rs ++ r ∷ []) (records_at n (count - (i + 1)) r.0 after) = rw (k, h) (regroup rs r (records_at n (count - (i + 1)) r.0 after)) in
    let two : with_front new (records_at n (count - (i + 1)) (last_key new) after) ≡ with_front (rs ++ r ∷ []) (records_at n (count - (i + 1)) r.0 after) = rw (e, last_more rs r) refl in
    two ∙ sym one ∙ so_far

pub records_end : (n count i : ℕ) (rs : List (List ℕ × Rec)) (bytes : List ℕ) (f : FrameFault) (total : Read (List (List ℕ × Rec))) → i < count → Fails f (record_at n (last_key rs) bytes) → RecordsSoFar n count i rs bytes total → Fails f total
unfolding records_at
records_end n count i rs bytes f total lt h so_far = by f h
  where
    one : (f : FrameFault) → record_at n (last_key rs) bytes ≡ Err f → total ≡ Err f
    one f h =
        let k : count - i ≡ suc (count - (i + 1)) = omega arith in
        let both : with_front rs (records_at n (count - i) (last_key rs) bytes) ≡ Err f = rw (k, h) refl in
        sym so_far ∙ both

    by : (f : FrameFault) → Fails f (record_at n (last_key rs) bytes) → Fails f total
    by Short h = one Short h
    by Magic h = one Magic h
    by Version h = one Version h
    by Field h = one Field h
    by Order h = one Order h
    by Damaged h = one Damaged h
    by Trailing h = one Trailing h
    by Memory h = tt

pub records_done : (n count i : ℕ) (rs : List (List ℕ × Rec)) (bytes : List ℕ) (total : Read (List (List ℕ × Rec))) → count ≤ i → RecordsSoFar n count i rs bytes total → total ≡ Ok (rs, bytes)
unfolding records_at
records_done n count i rs bytes total le so_far =
    let k : count - i ≡ 0 = omega arith in
    let one : with_front rs (records_at n (count - i) (last_key rs) bytes) ≡ Ok (rs, bytes) = rw k (ap (λ (all : List (List ℕ × Rec)). Ok (all, bytes)) (append-nil rs)) in
    sym so_far ∙ one

-- ---- writing a vector

pub entry_more : (v : List ℕ) (i : ℕ) → i < length v → flat_map eight (take (i + 1) v) ≡ flat_map eight (take i v) ++ eight (entry_of v (i + 1))
entry_more v i lt =
    let n : i + 1 ≡ suc i = omega arith in
    let entry : eight (entry_of v (i + 1)) ≡ eight (get_or v i 0) = ap (λ (j : ℕ). eight (entry_of v j)) n in
    let one : flat_map eight (get_or v i 0 ∷ []) ≡ eight (get_or v i 0) = flat_map-cons eight (get_or v i 0) [] ∙ append-nil (eight (get_or v i 0)) in
    ap (flat_map eight) (take_more v i 0 lt) ∙ flat_map-append eight (take i v) (get_or v i 0 ∷ []) ∙ ap (λ (x : List ℕ). flat_map eight (take i v) ++ x) (one ∙ sym entry)

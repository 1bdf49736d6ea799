-- Where the elements of a list in chunks stand.
use Rattle.std.proofs.Common.{◌≡◌, ℕ, zero, suc, ◌+◌, ◌*◌, ◌/◌, ◌%◌, ◌-◌, ◌<◌, ◌≤◌, List, [], ◌∷◌, ◌++◌, length, Option, None, Some, slice_get, refl, sym, ap, ◌∙◌, subst, arith, length-append, append_assoc, append-nil, Vec, true, false, is_some, IfSome, option_copied, get_or, Bor}
use Rattle.std.proofs.Math.Dec.{ltb}
use Rattle.std.proofs.lemmas.Bool.{ltb-true, ltb-false}
use Rattle.std.proofs.lemmas.Option.{slice_get_past, slice_get_read}
use Rattle.std.specs.declared.alloc.Global.{Global}
use Rattle.geo_chunks.specs.Chunking.{joined, AllEven}

even_first : {T : Type 0} (v : Vec T Global) (vs : List (Vec T Global)) → AllEven (v ∷ vs) → length v.items ≡ 256
even_first v vs even = even 0 v (omega arith)

even_others : {T : Type 0} (v : Vec T Global) (vs : List (Vec T Global)) → AllEven (v ∷ vs) → AllEven vs
even_others v vs even k d h = even (suc k) d (omega (arith, h))

left_get : {T : Type 0} (xs ys : List T) (i : ℕ) → i < length xs → slice_get (xs ++ ys) i ≡ slice_get xs i
left_get [] ys i h = absurd (omega arith)
left_get (x ∷ xs) ys zero h = refl
left_get (x ∷ xs) ys (suc i) h = left_get xs ys i (omega arith)

right_get : {T : Type 0} (xs ys : List T) (i : ℕ) → slice_get (xs ++ ys) (length xs + i) ≡ slice_get ys i
right_get [] ys i = ap (slice_get ys) (omega arith)
right_get (x ∷ xs) ys i = ap (slice_get (x ∷ (xs ++ ys))) at ∙ right_get xs ys i
  where
    at : length (x ∷ xs) + i ≡ suc (length xs + i)
    at = omega arith

-- full chunks have 256 elements each
pub joined_length : {T : Type 0} (full : List (Vec T Global)) → AllEven full → length (joined full) ≡ length full * 256
joined_length [] even = refl
joined_length (v ∷ vs) even = length-append v.items (joined vs) ∙ sum (joined_length vs (even_others v vs even)) (even_first v vs even)
  where
    sum : length (joined vs) ≡ length vs * 256 → length v.items ≡ 256 → length v.items + length (joined vs) ≡ suc (length vs) * 256
    sum e f = omega (arith, e, f)

abbrev IsNone : {X : Type 0} → Option X → Type 0
IsNone None = Unit {0}
IsNone (Some x) = ⊥

abbrev get_within : {T : Type 0} → Option (Vec T Global) → ℕ → Option T
get_within None w = None
get_within (Some chunk) w = slice_get chunk.items w

at_chunk : {T : Type 0} (full : List (Vec T Global)) (last : List T) (c w : ℕ) (chunk : Vec T Global) → AllEven full → w < 256 → slice_get full c ≡ Some chunk
    → slice_get (joined full ++ last) (c * 256 + w) ≡ slice_get chunk.items w
at_chunk [] last c w chunk even h found = absurd (none found)
  where
    none : None ≡ Some chunk → ⊥
    none e = subst IsNone e tt
at_chunk (v ∷ vs) last zero w chunk even h found = ap (slice_get ((v.items ++ joined vs) ++ last)) first ∙ ap (λ l. slice_get l w) (append_assoc v.items (joined vs) last) ∙ left_get v.items (joined vs ++ last) w (within (even_first v vs even)) ∙ same found
  where
    first : zero * 256 + w ≡ w
    first = omega arith

    within : length v.items ≡ 256 → w < length v.items
    within e = omega (arith, e, h)

    same : Some v ≡ Some chunk → slice_get v.items w ≡ slice_get chunk.items w
    same e = ap (λ o. get_within o w) e
at_chunk (v ∷ vs) last (suc c) w chunk even h found = ap (slice_get ((v.items ++ joined vs) ++ last)) (at (even_first v vs even)) ∙ ap (λ l. slice_get l (length v.items + (c * 256 + w))) (append_assoc v.items (joined vs) last)
    ∙ right_get v.items (joined vs ++ last) (c * 256 + w) ∙ at_chunk vs last c w chunk (even_others v vs even) h found
  where
    at : length v.items ≡ 256 → suc c * 256 + w ≡ length v.items + (c * 256 + w)
    at e = omega (arith, e)

-- what a look-up finds
pub looked : {T : Type 0} (xs : List T) (i : ℕ) (found : Option (Bor T)) → is_some found ≡ ltb i (length xs) → IfSome found (λ x. x.now ≡ get_or xs i x.now) → option_copied found ≡ slice_get xs i
looked xs i None past there = sym (slice_get_past xs i (not_below past))
  where
    not_below : false ≡ ltb i (length xs) → length xs ≤ i
    not_below e = ltb-false i (length xs) (sym e)
looked xs i (Some x) past there = sym (slice_get_read xs (length xs) i x.now refl (below past) there)
  where
    below : true ≡ ltb i (length xs) → i < length xs
    below e = ltb-true i (length xs) (sym e)

-- an element of a full chunk
pub in_full : {T : Type 0} (full : List (Vec T Global)) (last : List T) (place : ℕ) (chunk : Vec T Global) → AllEven full → slice_get full (place / 256) ≡ Some chunk
    → slice_get (joined full ++ last) place ≡ slice_get chunk.items (place % 256)
in_full full last place chunk even found = ap (slice_get (joined full ++ last)) whole ∙ at_chunk full last (place / 256) (place % 256) chunk even (omega arith) found
  where
    whole : place ≡ place / 256 * 256 + place % 256
    whole = omega arith

-- an element behind the full chunks
pub behind_full : {T : Type 0} (full : List (Vec T Global)) (last : List T) (place : ℕ) → AllEven full → length full ≤ place / 256
    → slice_get (joined full ++ last) place ≡ slice_get last (place - length full * 256)
behind_full full last place even h = ap (slice_get (joined full ++ last)) whole ∙ right_get (joined full) last (place - length full * 256)
  where
    long : length (joined full) ≡ length full * 256
    long = joined_length full even

    whole : place ≡ length (joined full) + (place - length full * 256)
    whole = omega (arith, long, h)

joined_append : {T : Type 0} (full : List (Vec T Global)) (chunk : Vec T Global) → joined (full ++ chunk ∷ []) ≡ joined full ++ chunk.items
joined_append [] chunk = append-nil chunk.items
joined_append (v ∷ vs) chunk = ap (λ l. v.items ++ l) (joined_append vs chunk) ∙ sym (append_assoc v.items (joined vs) chunk.items)

-- one chunk more is full, and the next has one element
pub one_more : {T : Type 0} (full more : List (Vec T Global)) (last next : Vec T Global) (x : T) → more ≡ full ++ last ∷ [] → next.items ≡ x ∷ [] → joined more ++ next.items ≡ (joined full ++ last.items) ++ x ∷ []
one_more full more last next x m n = ap (λ l. joined l ++ next.items) m ∙ ap (λ l. joined (full ++ last ∷ []) ++ l) n ∙ ap (λ l. l ++ x ∷ []) (joined_append full last)

-- How calls end, from the last one back.
use Rattle.std.proofs.Common.{◌≡◌, ◌≢◌, ◌⊎◌, inl, inr, ◌+◌, ℕ, Bool, true, false, List, [], ◌∷◌, ◌++◌, length, refl, ap, sym, ◌∙◌, subst, if◌then◌else◌, append_assoc, length-append, arith}
use Rattle.std.proofs.lemmas.List.{append_cancel_right, append-nil}
use Rattle.geo_history.specs.declared.step.Step.{Step}
use Rattle.geo_station.specs.declared.call.Call.{Call}
use Rattle.geo_station.specs.declared.fits.Ending.{Ending}
use Rattle.geo_station.specs.declared.fits.Ending.TheVariants.{Whole, Tail, More, Other}
use Rattle.geo_station.specs.Seats.{call_of, is_call_of, calls_of, EndsWith}
use Rattle.geo_station.specs.Endings.{EndsSo}

-- the last of a list with another before it
abbrev last_after : Call → List Call → Call
last_after c [] = c
last_after c (x ∷ xs) = last_after x xs

last_is : (z : Call) (xs : List Call) (c : Call) → last_after z (xs ++ c ∷ []) ≡ c
last_is z [] c = refl
last_is z (x ∷ xs) c = last_is x xs c

-- lists that are one end with one call
one_last : (xs ys : List Call) (c d : Call) → xs ++ c ∷ [] ≡ ys ++ d ∷ [] → c ≡ d
one_last xs ys c d e = sym (last_is c xs c) ∙ ap (last_after c) e ∙ last_is c ys d

not_empty : (xs : List Call) (c : Call) → xs ++ c ∷ [] ≢ []
not_empty xs c e = let n : length xs + 1 ≡ 0 = sym (length-append xs (c ∷ [])) ∙ ap length e in absurd (omega (arith, n))

-- a step more at the end
after_one : (b : Bool) (c : Call) (xs ys zs : List Call) → xs ≡ ys ++ zs → (if b then c ∷ xs else xs) ≡ (if b then c ∷ ys else ys) ++ zs
after_one true c xs ys zs e = ap (λ l. c ∷ l) e
after_one false c xs ys zs e = e

pub calls_more : (seat : ℕ) (steps : List Step) (s : Step) → is_call_of seat s ≡ true → calls_of seat (steps ++ s ∷ []) ≡ calls_of seat steps ++ call_of s.event s.answer ∷ []
calls_more seat [] s is = ap (λ (b : Bool). if b then call_of s.event s.answer ∷ [] else []) is
calls_more seat (x ∷ steps) s is = after_one (is_call_of seat x) (call_of x.event x.answer) (calls_of seat (steps ++ s ∷ [])) (calls_of seat steps) (call_of s.event s.answer ∷ []) (calls_more seat steps s is)

pub calls_stay : (seat : ℕ) (steps : List Step) (s : Step) → is_call_of seat s ≡ false → calls_of seat (steps ++ s ∷ []) ≡ calls_of seat steps
calls_stay seat [] s is = ap (λ (b : Bool). if b then call_of s.event s.answer ∷ [] else []) is
calls_stay seat (x ∷ steps) s is = ap (λ (l : List Call). if is_call_of seat x then call_of x.event x.answer ∷ l else l) (calls_stay seat steps s is)

-- one call more at the end of both
pub ends_further : (e : Ending) (all kept : List Call) (c : Call) → EndsSo e all kept → EndsSo e (all ++ c ∷ []) (kept ++ c ∷ [])
ends_further Whole all kept c same = ap (λ l. l ++ c ∷ []) same
ends_further Tail all kept c ends = (
  (ends.0.0, ap (λ l. l ++ c ∷ []) ends.0.1 ∙ append_assoc ends.0.0 kept (c ∷ [])),
  λ same. ends.1 (append_cancel_right all kept (c ∷ []) same),
)
ends_further More all kept c ends = (
  (ends.0.0, ap (λ l. l ++ c ∷ []) ends.0.1 ∙ append_assoc ends.0.0 all (c ∷ [])),
  λ same. ends.1 (append_cancel_right all kept (c ∷ []) same),
)
ends_further Other all kept c differs = λ ends. differs (by ends)
  where
    by : EndsWith (all ++ c ∷ []) (kept ++ c ∷ []) ⊎ EndsWith (kept ++ c ∷ []) (all ++ c ∷ []) → EndsWith all kept ⊎ EndsWith kept all
    by (inl e) = inl (e.0, append_cancel_right all (e.0 ++ kept) (c ∷ []) (e.1 ∙ sym (append_assoc e.0 kept (c ∷ []))))
    by (inr e) = inr (e.0, append_cancel_right kept (e.0 ++ all) (c ∷ []) (e.1 ∙ sym (append_assoc e.0 all (c ∷ []))))

-- where none are left there are more
pub ends_early : (all : List Call) (c : Call) → EndsSo Tail (all ++ c ∷ []) []
ends_early all c = ((all ++ c ∷ [], sym (append-nil (all ++ c ∷ []))), not_empty all c)

-- where the last two differ
pub ends_apart : (all kept : List Call) (c d : Call) → c ≢ d → EndsSo Other (all ++ c ∷ []) (kept ++ d ∷ [])
ends_apart all kept c d apart = by
  where
    by : EndsWith (all ++ c ∷ []) (kept ++ d ∷ []) ⊎ EndsWith (kept ++ d ∷ []) (all ++ c ∷ []) → ⊥
    by (inl e) = apart (one_last all (e.0 ++ kept) c d (e.1 ∙ sym (append_assoc e.0 kept (d ∷ []))))
    by (inr e) = apart (sym (one_last kept (e.0 ++ all) d c (e.1 ∙ sym (append_assoc e.0 all (c ∷ [])))))

-- a step of the seat more, where no call is left
pub step_early : (seat : ℕ) (steps earlier : List Step) (s : Step) (left : List Call) → steps ≡ earlier ++ s ∷ [] → is_call_of seat s ≡ true → length left ≡ 0 → EndsSo Tail (calls_of seat steps) left
step_early seat steps earlier s left p is none = subst (λ l. EndsSo Tail (calls_of seat l) left) (sym p) (subst (λ l. EndsSo Tail l left) (sym (calls_more seat earlier s is)) (by left none))
  where
    by : (left : List Call) → length left ≡ 0 → EndsSo Tail (calls_of seat earlier ++ call_of s.event s.answer ∷ []) left
    by [] n = ends_early (calls_of seat earlier) (call_of s.event s.answer)
    by (x ∷ xs) n = absurd (omega (arith, n))

-- a step of the seat more, where the last call that is left is another
pub step_apart : (seat : ℕ) (steps earlier : List Step) (s : Step) (left others : List Call) (d : Call) → steps ≡ earlier ++ s ∷ [] → is_call_of seat s ≡ true → left ≡ others ++ d ∷ [] → call_of s.event s.answer ≢ d → EndsSo Other (calls_of seat steps) left
step_apart seat steps earlier s left others d p is q apart = subst (λ l. EndsSo Other (calls_of seat l) left) (sym p) (subst (λ l. EndsSo Other l left) (sym (calls_more seat earlier s is)) (subst (λ l. EndsSo Other (calls_of seat earlier ++ call_of s.event s.answer ∷ []) l) (sym q) (ends_apart (calls_of seat earlier) others (call_of s.event s.answer) d apart)))

-- a step of the seat more, which is that of the last call that is left
pub step_further : (e : Ending) (seat : ℕ) (steps earlier : List Step) (s : Step) (left others : List Call) (d : Call) → steps ≡ earlier ++ s ∷ [] → is_call_of seat s ≡ true → left ≡ others ++ d ∷ [] → call_of s.event s.answer ≡ d → EndsSo e (calls_of seat earlier) others → EndsSo e (calls_of seat steps) left
step_further e seat steps earlier s left others d p is q same ends = subst (λ l. EndsSo e (calls_of seat l) left) (sym p) (subst (λ l. EndsSo e l left) (sym (calls_more seat earlier s is)) (subst (λ l. EndsSo e (calls_of seat earlier ++ call_of s.event s.answer ∷ []) l) (sym q) (subst (λ d. EndsSo e (calls_of seat earlier ++ call_of s.event s.answer ∷ []) (others ++ d ∷ [])) same (ends_further e (calls_of seat earlier) others (call_of s.event s.answer) ends))))

-- a step more that is not of the seat
pub step_other : (e : Ending) (seat : ℕ) (steps earlier : List Step) (s : Step) (left : List Call) → steps ≡ earlier ++ s ∷ [] → is_call_of seat s ≡ false → EndsSo e (calls_of seat earlier) left → EndsSo e (calls_of seat steps) left
step_other e seat steps earlier s left p is ends = subst (λ l. EndsSo e (calls_of seat l) left) (sym p) (subst (λ l. EndsSo e l left) (sym (calls_stay seat earlier s is)) ends)

-- no step more, and no call
pub none_whole : (seat : ℕ) (steps : List Step) (left : List Call) → length steps ≡ 0 → length left ≡ 0 → EndsSo Whole (calls_of seat steps) left
none_whole seat [] [] n m = refl
none_whole seat [] (c ∷ left) n m = absurd (omega (arith, m))
none_whole seat (s ∷ steps) left n m = absurd (omega (arith, n))

-- no step more, and some call
pub none_more : (seat : ℕ) (steps : List Step) (left : List Call) → length steps ≡ 0 → (length left ≡ 0 → ⊥) → EndsSo More (calls_of seat steps) left
none_more seat [] [] n m = absurd (m refl)
none_more seat [] (c ∷ left) n m = ((c ∷ left, sym (append-nil (c ∷ left))), λ e. let k = ap length e in absurd (omega (arith, k)))
none_more seat (s ∷ steps) left n m = absurd (omega (arith, n))

-- How many steps were made.
use Rattle.std.proofs.Common.{◌≡◌, ◌≤◌, ℕ, suc, ◌+◌, Bool, true, false, cond, List, [], ◌∷◌, ◌++◌, length, sum_by, slice_index_or, refl, ap, arith}
use Rattle.std.proofs.lemmas.List.Sums.{sum_by-cons, sum_by_push}
use Rattle.geo_history.specs.Keeping.{Story, opened_with, made_in_all}
use Rattle.geo_history.specs.Sizes.{answer_bytes, capped, event_bytes}
use Rattle.geo_station.specs.declared.call.Call.{Call}
use Rattle.geo_station.specs.Seats.{call_bytes, calls_bytes}

pub few_flushes : (flushed : Bool) → cond flushed 1 0 ≤ 1
few_flushes true = omega arith
few_flushes false = omega arith

-- a due flush and a call
pub called_after : (first between last flushes : ℕ) → between ≡ first + flushes → last ≡ between + 1 → last ≡ first + (flushes + 1)
called_after first between last flushes a b = omega (arith, a, b)

-- a due flush, deletes, and a removal
pub maintained : (first ticked reaped last flushes count others : ℕ) → ticked ≡ first + flushes → reaped ≡ ticked + (count + others) → others ≡ 0 → last ≡ reaped + 1 → last ≡ first + (flushes + count + 1)
maintained first ticked reaped last flushes count others a b n d = omega (arith, a, b, n, d)

-- numbers of which each is 0
all_zero : (xs : List ℕ) → ((i : ℕ) → slice_index_or xs i 0 ≡ 0) → sum_by (λ n. n) xs ≡ 0
all_zero [] zero = refl
all_zero (x ∷ xs) zero =
    let here : x ≡ 0 = zero 0 in
    let rest = all_zero xs (λ i. zero (suc i)) in
    omega (arith, sum_by-cons (λ n. n) x xs, here, rest)

-- no seat had made a step, and none has
pub none_made : (story : Story) → ((seat : ℕ) → opened_with story.opening seat ≡ 0) → story.steps ≡ [] → made_in_all story ≡ 0
none_made story opened none =
    let before = all_zero story.opening.counts.items opened in
    let since : length story.steps ≡ 0 = ap length none in
    omega (arith, before, since)

-- one call more
pub calls_more : (calls : List Call) (call : Call) (bytes sized event asked answer next : ℕ) → bytes ≡ calls_bytes calls → sized ≡ capped (bytes + 320)
    → event ≡ capped (event_bytes call.event) → asked ≡ capped (sized + event) → answer ≡ capped (answer_bytes call.answer)
    → next ≡ capped (asked + answer) → next ≡ calls_bytes (calls ++ call ∷ [])
calls_more calls call bytes sized event asked answer next was a e b r d =
    let more = sum_by_push call_bytes calls call in
    omega (arith, more, was, a, e, b, r, d)

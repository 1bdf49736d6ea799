-- Where each history that has more steps waits for a parcel that no step before sends, no run takes them all.
use Rattle.std.proofs.Common.{◌≡◌, inl, inr, ◌≤◌, ◌<◌, ◌+◌, ◌-◌, ◌==◌, ℕ, zero, suc, Bool, true, false, if◌then◌else◌, List, [], ◌∷◌, ◌++◌, length, Option, None, Some, slice_get, slice_index, refl, sym, ap, subst, ◌∙◌, arith, append_assoc, append-nil, length-append, eq-eqb}
use Rattle.std.proofs.lemmas.Bool.{cases_eq, ne_eqb}
use Rattle.std.proofs.lemmas.Option.{slice_get_within, get_or_from_slice_get}
use Rattle.std.specs.List.{All}
use Rattle.geo_delta.specs.declared.parcel.Parcel.{Parcel}
use Rattle.geo_world.specs.declared.event.Event.{Event as Happening}
use Rattle.geo_history.specs.declared.history.History.{History}
use Rattle.geo_site.specs.declared.event.Event.TheVariants.{Take}
use Rattle.geo_site.specs.declared.event.Answer.{Answer}
use Rattle.geo_site.specs.declared.event.Answer.TheVariants.{Replied, Evicted, Sent, SendRefused, Taken as Took, TakeRefused, Removed, Ticked, Reaped, ReapRefused, Filled as FilledAs, Retired, RetireRefused}
use Rattle.geo_history.specs.declared.step.Step.{Step}
use Rattle.geo_audit.specs.Runs.{Turn, steps_at, parcel_in, listed, sent_in, TakesNumbered, EachTakesNumbered, IsOneOf, Interleaves}
use Rattle.geo_audit.specs.Verdicts.{HasMore, Waits}
use Rattle.geo_audit.proofs.Lists.{none_some, some_is, got_left, got_right}
use Rattle.geo_audit.proofs.Runs.{if_more, sent_more}

steps_append : (site : ℕ) (done rest : List Turn) → steps_at site (done ++ rest) ≡ steps_at site done ++ steps_at site rest
steps_append site [] rest = refl
steps_append site (x ∷ done) rest = if_more (x.site == site) x.step (steps_at site (done ++ rest)) (steps_at site done) (steps_at site rest) (steps_append site done rest)

-- the step of a turn, where its site's steps were those before
step_here : (done rest : List Turn) (t : Turn) (site : ℕ) → t.site ≡ site → slice_get (steps_at site (done ++ t ∷ rest)) (length (steps_at site done)) ≡ Some t.step
step_here done rest t site e =
    let n : length (steps_at site done) ≡ length (steps_at site done) + 0 = omega arith in
    ap (λ (l : List Step). slice_get l (length (steps_at site done))) (steps_append site done (t ∷ rest) ∙ ap (λ (b : Bool). steps_at site done ++ (if b then t.step ∷ steps_at site rest else steps_at site rest)) (eq-eqb t.site site e))
    ∙ ap (slice_get (steps_at site done ++ t.step ∷ steps_at site rest)) n ∙ got_right (steps_at site done) (t.step ∷ steps_at site rest) 0

-- who made a parcel that a run made
record MadeBy (run : List Turn) (parcel : Parcel) : Type 0 where
  pub place : ℕ
  pub turn : Turn
  pub there : slice_get run place ≡ Some turn
  pub number : ℕ
  pub step : Step
  pub at : slice_get (steps_at turn.site run) number ≡ Some step
  pub made : parcel_in step.answer ≡ Some parcel

one_on : (b : Bool) (x s : Step) (xs : List Step) (m : ℕ) → slice_get xs m ≡ Some s → (n : ℕ) × (slice_get (if b then x ∷ xs else xs) n ≡ Some s)
one_on true x s xs m e = (suc m, e)
one_on false x s xs m e = (m, e)

later_made : (t : Turn) (run : List Turn) (parcel : Parcel) → MadeBy run parcel → MadeBy (t ∷ run) parcel
later_made t run parcel m =
    let n = one_on (t.site == m.turn.site) t.step m.step (steps_at m.turn.site run) m.number m.at in
    record { place = suc m.place; turn = m.turn; there = m.there; number = n.0; step = m.step; at = n.1; made = m.made }

made_by_one : (run : List Turn) (i : ℕ) (parcel : Parcel) → slice_get (sent_in run) i ≡ Some parcel → MadeBy run parcel
made_by_one [] i parcel e = absurd (none_some parcel e)
made_by_one (t ∷ run) i parcel e = by (λ j f. made_by_one run j parcel f) (parcel_in t.step.answer) refl i e
  where
    by : ((j : ℕ) → slice_get (sent_in run) j ≡ Some parcel → MadeBy run parcel) → (o : Option Parcel) → parcel_in t.step.answer ≡ o → (i : ℕ) → slice_get (listed o ++ sent_in run) i ≡ Some parcel → MadeBy (t ∷ run) parcel
    by later None f i e = later_made t run parcel (later i e)
    by later (Some p) f zero e = record {
      place = 0;
      turn = t;
      there = refl;
      number = 0;
      step = t.step;
      at = ap (λ (b : Bool). slice_get (if b then t.step ∷ steps_at t.site run else steps_at t.site run) 0) (eq-eqb t.site t.site refl);
      made = f ∙ e;
    }
    by later (Some p) f (suc i) e = later_made t run parcel (later i e)

answer_sent : (answer : Answer) (parcel : Parcel) → parcel_in answer ≡ Some parcel → answer ≡ Sent parcel
answer_sent (Sent p) parcel e = ap Sent (some_is p parcel e)
answer_sent (Replied reply) parcel e = absurd (none_some parcel e)
answer_sent (Evicted done) parcel e = absurd (none_some parcel e)
answer_sent (SendRefused why) parcel e = absurd (none_some parcel e)
answer_sent (Took told) parcel e = absurd (none_some parcel e)
answer_sent (TakeRefused why) parcel e = absurd (none_some parcel e)
answer_sent (Removed count) parcel e = absurd (none_some parcel e)
answer_sent (Ticked done) parcel e = absurd (none_some parcel e)
answer_sent (Reaped done) parcel e = absurd (none_some parcel e)
answer_sent (ReapRefused why) parcel e = absurd (none_some parcel e)
answer_sent (FilledAs filled) parcel e = absurd (none_some parcel e)
answer_sent (Retired fresh) parcel e = absurd (none_some parcel e)
answer_sent (RetireRefused why) parcel e = absurd (none_some parcel e)

all_at : {X : Type 0} (P : X → Type 0) (xs : List X) (i : ℕ) (x : X) → All P xs → slice_get xs i ≡ Some x → P x
all_at P xs i x all at = subst P (get_or_from_slice_get xs i x x at) (all i x (slice_get_within xs i x at))

there_at : {X : Type 0} (xs : List X) (i : ℕ) → i < length xs → (x : X) × (slice_get xs i ≡ Some x)
there_at [] i h = absurd (omega (arith, h))
there_at (x ∷ xs) zero h = (x, refl)
there_at (x ∷ xs) (suc i) h = there_at xs i (omega (arith, h))

module _ (histories : List History) (counts : List ℕ) (more : HasMore histories counts) (waits : (k : ℕ) (h : History) → slice_get histories k ≡ Some h → slice_index counts k < length h.steps.items → Waits histories counts h (slice_index counts k)) where
  -- the next turn of a run takes a step that is counted
  module _ (done rest : List Turn) (t : Turn) (own : All (IsOneOf histories) (done ++ t ∷ rest)) (whole : (k : ℕ) (h : History) → slice_get histories k ≡ Some h → steps_at (k + 1) (done ++ t ∷ rest) ≡ h.steps.items)
      (carries : TakesNumbered (sent_in done) t.number t.step.event) (few : (k : ℕ) (h : History) → slice_get histories k ≡ Some h → length (steps_at (k + 1) done) ≤ slice_index counts k) where
    module _ (k : ℕ) (h : History) (there : slice_get histories k ≡ Some h) (is : t.site ≡ k + 1) (full : length (steps_at (k + 1) done) ≡ slice_index counts k) where
      here : slice_get h.steps.items (slice_index counts k) ≡ Some t.step
      here = ap (slice_get h.steps.items) (sym full) ∙ ap (λ (l : List Step). slice_get l (length (steps_at (k + 1) done))) (sym (whole k h there)) ∙ step_here done rest t (k + 1) is

      wait : Waits histories counts h (slice_index counts k)
      wait = waits k h there (slice_get_within h.steps.items (slice_index counts k) t.step here)

      takes : t.step.event ≡ Take wait.parcel
      takes = ap (λ (s : Step). s.event) (some_is t.step wait.goes_on.step (sym here ∙ wait.goes_on.next)) ∙ wait.goes_on.takes

      made : MadeBy done wait.parcel
      made = made_by_one done t.number wait.parcel (subst (TakesNumbered (sent_in done) t.number) takes carries)

      one : IsOneOf histories made.turn
      one = all_at (IsOneOf histories) (done ++ t ∷ rest) made.place made.turn own (got_left done (t ∷ rest) made.place (slice_get_within done made.place made.turn made.there) ∙ made.there)

      at : (j : ℕ) × (made.turn.site ≡ j + 1)
      at = let first = one.0 in (made.turn.site - 1, omega (arith, first))

      owner : (g : History) × (slice_get histories at.0 ≡ Some g)
      owner = let last = one.1 in let e = at.1 in there_at histories at.0 (omega (arith, last, e))

      made_there : slice_get (steps_at (at.0 + 1) done) made.number ≡ Some made.step
      made_there = subst (λ s. slice_get (steps_at s done) made.number ≡ Some made.step) at.1 made.at

      early : made.number < slice_index counts at.0
      early = let less = slice_get_within (steps_at (at.0 + 1) done) made.number made.step made_there in let f = few at.0 owner.0 owner.1 in omega (arith, less, f)

      of_owner : slice_get owner.0.steps.items made.number ≡ Some made.step
      of_owner = ap (λ (l : List Step). slice_get l made.number) (sym (whole at.0 owner.0 owner.1) ∙ steps_append (at.0 + 1) done (t ∷ rest))
          ∙ got_left (steps_at (at.0 + 1) done) (steps_at (at.0 + 1) (t ∷ rest)) made.number (slice_get_within (steps_at (at.0 + 1) done) made.number made.step made_there) ∙ made_there

      not_full : ⊥
      not_full = wait.unsent at.0 owner.0 made.number made.step owner.1 early of_owner (answer_sent made.step.answer wait.parcel made.made)

    few_more : (k : ℕ) (h : History) → slice_get histories k ≡ Some h → length (steps_at (k + 1) (done ++ t ∷ [])) ≤ slice_index counts k
    few_more k h there = elim (cases_eq t.site (k + 1)) [
      | inl e ↦ elim (cases_eq (length (steps_at (k + 1) done)) (slice_index counts k)) [
        | inl full ↦ absurd (not_full k h there e full)
        | inr less ↦
            let f = few k h there in
            let m = length-append (steps_at (k + 1) done) (t.step ∷ []) in
            let l : length (steps_at (k + 1) (done ++ t ∷ [])) ≡ length (steps_at (k + 1) done ++ t.step ∷ []) = ap length (steps_append (k + 1) done (t ∷ []) ∙ ap (λ (b : Bool). steps_at (k + 1) done ++ (if b then t.step ∷ [] else [])) (eq-eqb t.site (k + 1) e)) in
            omega (arith, f, m, l, less)
      ]
      | inr other ↦
          let f = few k h there in
          let l : length (steps_at (k + 1) (done ++ t ∷ [])) ≡ length (steps_at (k + 1) done) = ap length (steps_append (k + 1) done (t ∷ []) ∙ ap (λ (b : Bool). steps_at (k + 1) done ++ (if b then t.step ∷ [] else [])) (ne_eqb t.site (k + 1) other) ∙ append-nil (steps_at (k + 1) done)) in
          omega (arith, f, l)
    ]

  none_goes : (rest done : List Turn) → All (IsOneOf histories) (done ++ rest) → ((k : ℕ) (h : History) → slice_get histories k ≡ Some h → steps_at (k + 1) (done ++ rest) ≡ h.steps.items)
      → EachTakesNumbered (sent_in done) rest → ((k : ℕ) (h : History) → slice_get histories k ≡ Some h → length (steps_at (k + 1) done) ≤ slice_index counts k) → ⊥
  none_goes [] done own whole carries few =
      let f = few more.place more.history more.there in
      let l : length (steps_at (more.place + 1) done) ≡ length more.history.steps.items = ap (λ r. length (steps_at (more.place + 1) r)) (sym (append-nil done)) ∙ ap length (whole more.place more.history more.there) in
      let m = more.more in
      absurd (omega (arith, f, l, m))
  none_goes (t ∷ rest) done own whole carries few = none_goes rest (done ++ t ∷ [])
      (subst (All (IsOneOf histories)) (sym (append_assoc done (t ∷ []) rest)) own)
      (subst (λ (r : List Turn). (k : ℕ) (h : History) → slice_get histories k ≡ Some h → steps_at (k + 1) r ≡ h.steps.items) (sym (append_assoc done (t ∷ []) rest)) whole)
      (subst (λ s. EachTakesNumbered s rest) (sym (sent_more done t)) carries.1)
      (few_more done rest t own whole carries.0 few)

  pub none_interleaves : (schedule : List Happening) → Interleaves schedule histories → ⊥
  none_interleaves schedule is = none_goes is.run [] is.takes.own is.whole is.takes.carries (λ k h there. omega arith)

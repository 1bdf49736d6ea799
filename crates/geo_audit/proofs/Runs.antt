-- Runs, one turn more.
use Rattle.std.proofs.Common.{◌≡◌, ◌≢◌, inl, inr, ◌≤◌, ◌<◌, ◌+◌, ◌==◌, ℕ, zero, suc, Bool, true, false, if◌then◌else◌, List, [], ◌∷◌, ◌++◌, length, take, map, Option, None, Some, slice_get, slice_index, slice_set, refl, sym, ap, subst, subst₂, ◌∙◌, arith, append_assoc, append-nil, eq-eqb}
use Rattle.std.proofs.lemmas.Bool.{cases_eq, ne_eqb}
use Rattle.std.proofs.lemmas.List.{map-append, length-set, get_or-set_same, get_or-set_other}
use Rattle.std.proofs.lemmas.List.Elements.{All-push}
use Rattle.std.proofs.lemmas.Option.{slice_get_within}
use Rattle.geo_delta.specs.declared.parcel.Parcel.{Parcel}
use Rattle.geo_site.specs.declared.site.Site.{Site}
use Rattle.geo_world.specs.declared.event.Event.{Event as Happening}
use Rattle.geo_world.specs.declared.event.Trace.{Trace}
use Rattle.geo_world.specs.Schedule.{Known, known}
use Rattle.geo_world.specs.Tables.{Tables, kept}
use Rattle.geo_history.specs.declared.history.History.{History}
use Rattle.geo_site.specs.declared.event.Event.{Event}
use Rattle.geo_site.specs.declared.event.Event.TheVariants.{Command, Evict, Send, Take, Remove, Tick, Reap, Fill, Retire}
use Rattle.geo_history.specs.declared.step.Step.{Step}
use Rattle.geo_audit.specs.declared.sent.Place.{Place}
use Rattle.geo_audit.specs.Runs.{Turn, turn_of, steps_at, parcel_in, listed, sent_in, event_of, lets_go, gone, events_of, traces_of, events_in, traces_in, TakesNumbered, EachTakesNumbered, IsTold, Fits, EachFits, IsRun, first_of, none_of, IsOneOf, Takes}
use Rattle.geo_audit.specs.Verdicts.{NoneSends}
use Rattle.geo_audit.specs.Merging.{parcel_at, IsSentAs, IsUnsent, CarriesAs, Merged, left_of}
use Rattle.geo_audit.proofs.Lists.{none_some, some_is, got_right, got_taken, taken_more, got_map, got_mapped}

pub if_more : {X : Type 0} (b : Bool) (x : X) (xs ys zs : List X) → xs ≡ ys ++ zs → (if b then x ∷ xs else xs) ≡ (if b then x ∷ ys else ys) ++ zs
if_more true x xs ys zs e = ap (λ l. x ∷ l) e
if_more false x xs ys zs e = e

pub steps_more : (site : ℕ) (run : List Turn) (t : Turn) → steps_at site (run ++ t ∷ []) ≡ steps_at site run ++ steps_at site (t ∷ [])
steps_more site [] t = refl
steps_more site (x ∷ run) t = if_more (x.site == site) x.step (steps_at site (run ++ t ∷ [])) (steps_at site run) (steps_at site (t ∷ [])) (steps_more site run t)

-- a turn of the site, and one of another
steps_own : (site : ℕ) (run : List Turn) (t : Turn) → t.site ≡ site → steps_at site (run ++ t ∷ []) ≡ steps_at site run ++ t.step ∷ []
steps_own site run t e = steps_more site run t ∙ ap (λ (b : Bool). steps_at site run ++ (if b then t.step ∷ [] else [])) (eq-eqb t.site site e)

steps_other : (site : ℕ) (run : List Turn) (t : Turn) → t.site ≢ site → steps_at site (run ++ t ∷ []) ≡ steps_at site run
steps_other site run t e = steps_more site run t ∙ ap (λ (b : Bool). steps_at site run ++ (if b then t.step ∷ [] else [])) (ne_eqb t.site site e) ∙ append-nil (steps_at site run)

pub sent_more : (run : List Turn) (t : Turn) → sent_in (run ++ t ∷ []) ≡ sent_in run ++ listed (parcel_in t.step.answer)
sent_more [] t = append-nil (listed (parcel_in t.step.answer))
sent_more (x ∷ run) t = ap (λ l. listed (parcel_in x.step.answer) ++ l) (sent_more run t) ∙ sym (append_assoc (listed (parcel_in x.step.answer)) (sent_in run) (listed (parcel_in t.step.answer)))

pub events_more : (run : List Turn) (t : Turn) → events_in (run ++ t ∷ []) ≡ events_in run ++ events_of t
events_more [] t = append-nil (events_of t)
events_more (x ∷ run) t = ap (λ l. events_of x ++ l) (events_more run t) ∙ sym (append_assoc (events_of x) (events_in run) (events_of t))

traces_more : (run : List Turn) (t : Turn) → traces_in (run ++ t ∷ []) ≡ traces_in run ++ traces_of t
traces_more [] t = append-nil (traces_of t)
traces_more (x ∷ run) t = ap (λ l. traces_of x ++ l) (traces_more run t) ∙ sym (append_assoc (traces_of x) (traces_in run) (traces_of t))

carries_more : (sent : List Parcel) (run : List Turn) (t : Turn) → EachTakesNumbered sent run → TakesNumbered (sent ++ sent_in run) t.number t.step.event → EachTakesNumbered sent (run ++ t ∷ [])
carries_more sent [] t h c = (subst (λ l. TakesNumbered l t.number t.step.event) (append-nil sent) c, tt)
carries_more sent (x ∷ run) t h c = (h.0, carries_more (sent ++ listed (parcel_in x.step.answer)) run t h.1 (subst (λ l. TakesNumbered l t.number t.step.event) (sym (append_assoc sent (listed (parcel_in x.step.answer)) (sent_in run))) c))

-- what is known and kept after a turn and more
known_turn : (w : Known) (site : ℕ) (victim : Option (List ℕ)) (e : Happening) (c : Trace) (es : List Happening) (ts : List Trace) → known w ((lets_go site victim ++ e ∷ []) ++ es) ((gone victim ++ c ∷ []) ++ ts) ≡ known (known w (lets_go site victim ++ e ∷ []) (gone victim ++ c ∷ [])) es ts
known_turn w site None e c es ts = refl
known_turn w site (Some key) e c es ts = refl

kept_turn : (w : Known) (all : Tables) (site : ℕ) (victim : Option (List ℕ)) (e : Happening) (c : Trace) (es : List Happening) (ts : List Trace)
    → kept w all ((lets_go site victim ++ e ∷ []) ++ es) ((gone victim ++ c ∷ []) ++ ts) ≡ kept (known w (lets_go site victim ++ e ∷ []) (gone victim ++ c ∷ [])) (kept w all (lets_go site victim ++ e ∷ []) (gone victim ++ c ∷ [])) es ts
kept_turn w all site None e c es ts = refl
kept_turn w all site (Some key) e c es ts = refl

fits_more : (w : Known) (all : Tables) (run : List Turn) (t : Turn) → EachFits w all run
    → Fits (known w (events_in run) (traces_in run)) (kept w all (events_in run) (traces_in run)) (known (known w (events_in run) (traces_in run)) (events_of t) (traces_of t)) t → EachFits w all (run ++ t ∷ [])
fits_more w all [] t h f = (f, tt)
fits_more w all (x ∷ run) t h f = (
  h.0,
  fits_more (known w (events_of x) (traces_of x)) (kept w all (events_of x) (traces_of x)) run t h.1
      (subst₂ (λ (v : Known) (u : Tables). Fits v u (known v (events_of t) (traces_of t)) t) (known_turn w x.site x.step.victim (event_of x.site x.number x.step.event) x.trace (events_in run) (traces_in run))
      (kept_turn w all x.site x.step.victim (event_of x.site x.number x.step.event) x.trace (events_in run) (traces_in run)) f),
)

-- a parcel has its number in the run too
pub sent_as : (histories : List History) (places : List Place) (sent : List Parcel) (number : ℕ) (parcel : Parcel) → map (parcel_at histories) places ≡ map Some sent → IsSentAs histories places parcel number → slice_get sent number ≡ Some parcel
sent_as histories places sent number parcel e is = there found.0 found.1 found.2
  where
    mapped : slice_get (map Some sent) number ≡ Some (Some parcel)
    mapped = ap (λ (l : List (Option Parcel)). slice_get l number) (sym e) ∙ got_map (parcel_at histories) places number is.place is.there ∙ ap (λ o. Some o) is.is

    found : (x : Parcel) × (slice_get sent number ≡ Some x) × (Some x ≡ Some parcel)
    found = got_mapped (λ (p : Parcel). Some p) sent number (Some parcel) mapped

    there : (x : Parcel) → slice_get sent number ≡ Some x → Some x ≡ Some parcel → slice_get sent number ≡ Some parcel
    there x f g = f ∙ g

pub carried : (histories : List History) (places : List Place) (sent : List Parcel) (number : ℕ) (event : Event) → map (parcel_at histories) places ≡ map Some sent → CarriesAs histories places number event → TakesNumbered sent number event
carried histories places sent number (Command now request) e c = tt
carried histories places sent number (Evict key) e c = tt
carried histories places sent number (Send to) e c = tt
carried histories places sent number (Take parcel) e c = sent_as histories places sent number parcel e c
carried histories places sent number Remove e c = tt
carried histories places sent number (Tick now) e c = tt
carried histories places sent number (Reap now key) e c = tt
carried histories places sent number (Fill key bytes) e c = tt
carried histories places sent number (Retire other) e c = tt

-- what a step of a site in a run made is among what the run made
after_one : (o : Option Parcel) (sent : List Parcel) (m : ℕ) (parcel : Parcel) → slice_get sent m ≡ Some parcel → (n : ℕ) × (slice_get (listed o ++ sent) n ≡ Some parcel)
after_one o sent m parcel e = (length (listed o) + m, got_right (listed o) sent m ∙ e)

first_one : (o : Option Parcel) (sent : List Parcel) (parcel : Parcel) → o ≡ Some parcel → (n : ℕ) × (slice_get (listed o ++ sent) n ≡ Some parcel)
first_one None sent parcel e = absurd (none_some parcel e)
first_one (Some p) sent parcel e = (0, e)

among : (b : Bool) (s : Step) (own others : List Step) (rest : List Parcel) (n : ℕ) (step : Step) (parcel : Parcel)
    → ((m : ℕ) → slice_get others m ≡ Some step → (i : ℕ) × (slice_get rest i ≡ Some parcel)) → own ≡ (if b then s ∷ others else others) → slice_get own n ≡ Some step → parcel_in step.answer ≡ Some parcel
    → (m : ℕ) × (slice_get (listed (parcel_in s.answer) ++ rest) m ≡ Some parcel)
among true s own others rest n step parcel later is e a = by n (ap (λ (l : List Step). slice_get l n) (sym is) ∙ e)
  where
    by : (n : ℕ) → slice_get (s ∷ others) n ≡ Some step → (m : ℕ) × (slice_get (listed (parcel_in s.answer) ++ rest) m ≡ Some parcel)
    by zero f = first_one (parcel_in s.answer) rest parcel (ap (λ (t : Step). parcel_in t.answer) (some_is s step f) ∙ a)
    by (suc n) f = after_one (parcel_in s.answer) rest (later n f).0 parcel (later n f).1
among false s own others rest n step parcel later is e a = let found = later n (ap (λ (l : List Step). slice_get l n) (sym is) ∙ e) in after_one (parcel_in s.answer) rest found.0 parcel found.1

sends_in : (run : List Turn) (site n : ℕ) (step : Step) (parcel : Parcel) → slice_get (steps_at site run) n ≡ Some step → parcel_in step.answer ≡ Some parcel → (m : ℕ) × (slice_get (sent_in run) m ≡ Some parcel)
sends_in [] site n step parcel e a = absurd (none_some step e)
sends_in (t ∷ run) site n step parcel e a = among (t.site == site) t.step (steps_at site (t ∷ run)) (steps_at site run) (sent_in run) n step parcel (λ m f. sends_in run site m step parcel f a) refl e a

-- none of the steps that were taken makes a parcel that was not made
pub none_sends : (histories : List History) (counts : List ℕ) (places : List Place) (sites : List Site) (parcels : List Parcel) (events : List Happening) (parcel : Parcel) → Merged histories counts places sites parcels events → IsUnsent histories places parcel → NoneSends histories counts parcel
none_sends histories counts places sites parcels events parcel m unsent k h n step there early next sends = unsent found.0 place.0 place.1 place.2
  where
    taken : slice_get (steps_at (k + 1) m.run) n ≡ Some step
    taken = ap (λ (l : List Step). slice_get l n) (m.takes.taken k h there) ∙ got_taken h.steps.items (slice_index counts k) n early ∙ next

    found : (i : ℕ) × (slice_get (sent_in m.run) i ≡ Some parcel)
    found = sends_in m.run (k + 1) n step parcel taken (ap parcel_in sends)

    place : (p : Place) × (slice_get places found.0 ≡ Some p) × (parcel_at histories p ≡ Some parcel)
    place = got_mapped (parcel_at histories) places found.0 (Some parcel) (ap (λ (l : List (Option Parcel)). slice_get l found.0) m.sent ∙ got_map (λ (p : Parcel). Some p) (sent_in m.run) found.0 parcel found.1)

-- the counts, one step more of one history
counted_own : (counts : List ℕ) (k : ℕ) → k < length counts → slice_index (slice_set counts k (slice_index counts k + 1)) k ≡ slice_index counts k + 1
counted_own counts k h = get_or-set_same counts k (slice_index counts k + 1) 0 h

counted_other : (counts : List ℕ) (k j : ℕ) → (j ≡ k → ⊥) → slice_index (slice_set counts k (slice_index counts k + 1)) j ≡ slice_index counts j
counted_other counts k j h = get_or-set_other counts k j (slice_index counts k + 1) 0 h

-- one turn more
pub takes_more : (histories : List History) (counts : List ℕ) (sites new : List Site) (parcels made : List Parcel) (run : List Turn) (k number : ℕ) (h : History) (step : Step) (trace : Trace) → Takes histories counts sites parcels run → slice_get histories k ≡ Some h
    → slice_get h.steps.items (slice_index counts k) ≡ Some step → length new ≡ length sites → IsTold (turn_of (k + 1) number step trace) → TakesNumbered (sent_in run) number step.event
    → Fits (known (first_of histories) (events_in run) (traces_in run)) (kept (first_of histories) (none_of histories) (events_in run) (traces_in run)) (known (known (first_of histories) (events_in run) (traces_in run)) (events_of (turn_of (k + 1) number step trace)) (traces_of (turn_of (k + 1) number step trace))) (turn_of (k + 1) number step trace)
    → IsRun (first_of histories) (none_of histories) new made (events_in run ++ events_of (turn_of (k + 1) number step trace)) (traces_in run ++ traces_of (turn_of (k + 1) number step trace))
    → Takes histories (slice_set counts k (slice_index counts k + 1)) new made (run ++ turn_of (k + 1) number step trace ∷ [])
takes_more histories counts sites new parcels made run k number h step trace m there next as_many told carries fits runs = record {
  setups = m.setups;
  as_many = as_many ∙ m.as_many;
  runs = subst₂ (λ (es : List Happening) (ts : List Trace). IsRun (first_of histories) (none_of histories) new made es ts) (sym (events_more run turn)) (sym (traces_more run turn)) runs;
  told = All-push IsTold run turn m.told told;
  fits = fits_more (first_of histories) (none_of histories) run turn m.fits fits;
  carries = carries_more [] run turn m.carries carries;
  own = All-push (IsOneOf histories) run turn m.own (omega arith, one_of);
  many = length-set counts k (slice_index counts k + 1) ∙ m.many;
  within = within;
  taken = taken;
}
  where
    turn : Turn
    turn = turn_of (k + 1) number step trace

    inside : k < length histories
    inside = slice_get_within histories k h there

    one_of : k + 1 ≤ length histories
    one_of = omega (arith, inside)

    counted : k < length counts
    counted = subst (λ n. k < n) (sym m.many) inside

    more : slice_index counts k < length h.steps.items
    more = slice_get_within h.steps.items (slice_index counts k) step next

    within : (j : ℕ) (g : History) → slice_get histories j ≡ Some g → slice_index (slice_set counts k (slice_index counts k + 1)) j ≤ length g.steps.items
    within j g at = elim (cases_eq j k) [
      | inl e ↦ let same : h ≡ g = some_is h g (sym there ∙ ap (slice_get histories) (sym e) ∙ at) in
          subst (λ i. slice_index (slice_set counts k (slice_index counts k + 1)) i ≤ length g.steps.items) (sym e)
          (subst (λ (g : History). slice_index (slice_set counts k (slice_index counts k + 1)) k ≤ length g.steps.items) same
          (subst (λ n. n ≤ length h.steps.items) (sym (counted_own counts k counted)) (omega (arith, more))))
      | inr e ↦ subst (λ n. n ≤ length g.steps.items) (sym (counted_other counts k j e)) (m.within j g at)
    ]

    taken : (j : ℕ) (g : History) → slice_get histories j ≡ Some g → steps_at (j + 1) (run ++ turn ∷ []) ≡ take (slice_index (slice_set counts k (slice_index counts k + 1)) j) g.steps.items
    taken j g at = elim (cases_eq j k) [
      | inl e ↦ let same : h ≡ g = some_is h g (sym there ∙ ap (slice_get histories) (sym e) ∙ at) in
          subst (λ i. steps_at (i + 1) (run ++ turn ∷ []) ≡ take (slice_index (slice_set counts k (slice_index counts k + 1)) i) g.steps.items) (sym e)
          (subst (λ (g : History). steps_at (k + 1) (run ++ turn ∷ []) ≡ take (slice_index (slice_set counts k (slice_index counts k + 1)) k) g.steps.items) same
          (steps_own (k + 1) run turn refl ∙ ap (λ l. l ++ step ∷ []) (m.taken k h there) ∙ sym (taken_more h.steps.items (slice_index counts k) step next) ∙ ap (λ n. take n h.steps.items) (sym (counted_own counts k counted))))
      | inr e ↦ steps_other (j + 1) run turn (λ f. e (omega (arith, f))) ∙ m.taken j g at ∙ ap (λ n. take n g.steps.items) (sym (counted_other counts k j e))
    ]

-- the parcels that were made, one turn more
pub sent_after : (histories : List History) (places new : List Place) (run : List Turn) (t : Turn) → map (parcel_at histories) places ≡ map Some (sent_in run) → map (parcel_at histories) new ≡ map (parcel_at histories) places ++ map Some (listed (parcel_in t.step.answer))
    → map (parcel_at histories) new ≡ map Some (sent_in (run ++ t ∷ []))
sent_after histories places new run t sent adds = adds ∙ ap (λ l. l ++ map Some (listed (parcel_in t.step.answer))) sent ∙ sym (map-append (λ (p : Parcel). Some p) (sent_in run) (listed (parcel_in t.step.answer))) ∙ ap (map (λ (p : Parcel). Some p)) (sym (sent_more run t))

-- fewer steps are left
pub left_less : (histories : List History) (counts : List ℕ) (k : ℕ) (h : History) → slice_get histories k ≡ Some h → slice_index counts k < length h.steps.items → k < length counts → left_of histories (slice_set counts k (slice_index counts k + 1)) < left_of histories counts
left_less [] counts k h there more inside = absurd (none_some h there)
left_less (g ∷ histories) [] k h there more inside = absurd (omega (arith, inside))
left_less (g ∷ histories) (n ∷ counts) zero h there more inside =
    let e : length h.steps.items ≡ length g.steps.items = ap (λ (x : History). length x.steps.items) (sym (some_is g h there)) in omega (arith, e, more)
left_less (g ∷ histories) (n ∷ counts) (suc k) h there more inside = let less = left_less histories counts k h there more (omega (arith, inside)) in omega (arith, less)

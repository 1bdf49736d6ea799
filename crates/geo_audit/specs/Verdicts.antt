-- What a verdict on histories says.
use Rattle.std.specs.Prelude.{◌≡◌, ◌≢◌, ◌⊎◌, ℕ, ◌+◌, ◌≤◌, ◌<◌, false, List, length, Some, slice_get, slice_index}
use Rattle.std.specs.List.{All}
use Rattle.geo_delta.specs.declared.parcel.Parcel.{Parcel}
use Rattle.geo_site.specs.declared.site.Site.{Site}
use Rattle.geo_world.specs.declared.event.Event.{Event as Happening}
use Rattle.geo_world.specs.Schedule.{known}
use Rattle.geo_history.specs.declared.history.History.{History}
use Rattle.geo_site.specs.declared.event.Event.TheVariants.{Take}
use Rattle.geo_site.specs.declared.event.Answer.TheVariants.{Sent}
use Rattle.geo_history.specs.declared.step.Step.{Step}
use Rattle.geo_audit.specs.declared.verdict.Verdict.{Verdict}
use Rattle.geo_audit.specs.declared.verdict.Verdict.TheVariants.{Sound, Stuck, Wrong, LaterEra}
use Rattle.geo_audit.specs.Openings.{OpensEmpty, IsFirstLater}
use Rattle.geo_world.specs.Setups.{are_setups}
use Rattle.geo_world.specs.Tables.{kept}
use Rattle.geo_audit.specs.Runs.{Turn, setups_in, first_of, none_of, sent_in, events_in, traces_in, TakesNumbered, Takes, Interleaves}
use Rattle.geo_audit.specs.Misses.{Misses}

-- the histories are those of sites 1, 2 and so on
abbrev pub AreInOrder : List History → Type 0
AreInOrder histories = (k : ℕ) (h : History) → slice_get histories k ≡ Some h → h.setup.site ≡ k + 1

-- after so many steps a history goes on with a take of this parcel
pub record GoesOnWith (history : History) (count : ℕ) (parcel : Parcel) : Type 0 where
  pub step : Step
  pub next : slice_get history.steps.items count ≡ Some step
  pub takes : step.event ≡ Take parcel

-- none of the first steps of the histories, so many of each, makes this parcel
abbrev pub NoneSends : List History → List ℕ → Parcel → Type 0
NoneSends histories counts parcel = (k : ℕ) (h : History) (n : ℕ) (step : Step) → slice_get histories k ≡ Some h → n < slice_index counts k
    → slice_get h.steps.items n ≡ Some step → step.answer ≢ Sent parcel

-- a history goes on with a take of a parcel that none of the steps sends that were taken
pub record Waits (histories : List History) (counts : List ℕ) (history : History) (count : ℕ) : Type 0 where
  pub parcel : Parcel
  pub goes_on : GoesOnWith history count parcel
  pub unsent : NoneSends histories counts parcel

-- some history has more steps than were taken
pub record HasMore (histories : List History) (counts : List ℕ) : Type 0 where
  pub place : ℕ
  pub history : History
  pub there : slice_get histories place ≡ Some history
  pub more : slice_index counts place < length history.steps.items

-- so many steps of each history were taken, some has more, and each that has waits; so no schedule interleaves them
pub record IsStuck (histories : List History) (counts : List ℕ) : Type 0 where
  pub many : length counts ≡ length histories
  pub within : (k : ℕ) (h : History) → slice_get histories k ≡ Some h → slice_index counts k ≤ length h.steps.items
  pub more : HasMore histories counts
  pub waits : (k : ℕ) (h : History) → slice_get histories k ≡ Some h → slice_index counts k < length h.steps.items
      → Waits histories counts h (slice_index counts k)
  pub none : (schedule : List Happening) → Interleaves schedule histories → ⊥

-- this step of the history of this site, from 1, is next after a run of so many steps of each history, and what it takes was made;
-- but it is not what comes
pub record Fails (histories : List History) (site step : ℕ) : Type 0 where
  pub counts : List ℕ
  pub sites : List Site
  pub parcels : List Parcel
  pub run : List Turn
  pub takes : Takes histories counts sites parcels run
  pub place : ℕ
  pub history : History
  pub there : slice_get histories place ≡ Some history
  pub site_is : site ≡ place + 1
  pub step_is : step ≡ slice_index counts place + 1
  pub next : Step
  pub next_is : slice_get history.steps.items (slice_index counts place) ≡ Some next
  pub number : ℕ
  pub carries : TakesNumbered (sent_in run) number next.event
  pub misses : Misses (known (first_of histories) (events_in run) (traces_in run))
      (kept (first_of histories) (none_of histories) (events_in run) (traces_in run)) (place + 1) number next

-- no sites are set up so
abbrev pub NotSetUp : List History → ℕ → ℕ → Type 0
NotSetUp histories site step = (site ≡ 0) × (step ≡ 0) × (are_setups (setups_in histories) ≡ false)

-- what a verdict says: only where all histories begin with the start of their sites it says more than which does not
abbrev pub Judges : List History → Verdict → Type 0
Judges histories (Sound schedule) = All OpensEmpty histories × Interleaves schedule.items histories
Judges histories (Stuck counts) = All OpensEmpty histories × IsStuck histories counts.items
Judges histories (Wrong site step) = All OpensEmpty histories × (NotSetUp histories site step ⊎ Fails histories site step)
Judges histories (LaterEra site) = IsFirstLater histories site

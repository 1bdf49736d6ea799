-- All events of a schedule were run, with these traces and to these sites and parcels; or why they were not.
use Rattle.std.specs.Prelude.{◌≡◌, ◌⊎◌, ℕ, Bool, true, false, List, length, Some, take, slice_get}
use Rattle.std.specs.List.{list_any}
use Rattle.geo_delta.specs.declared.parcel.Parcel.{Parcel}
use Rattle.geo_site.specs.declared.refusal.SendError.TheVariants as send
use Rattle.geo_site.specs.declared.refusal.TakeError.TheVariants as taking
use Rattle.geo_site.specs.declared.setup.Setup.{Setup}
use Rattle.geo_site.specs.declared.site.Site.{Site}
use Rattle.geo_world.specs.declared.event.Event.{Event}
use Rattle.geo_world.specs.declared.event.Trace.{Trace}
use Rattle.geo_world.specs.declared.event.Trace.TheVariants.{SendRefused, TakeRefused}
use Rattle.geo_world.specs.Schedule.{Known, known, EachLawful}
use Rattle.geo_world.specs.declared.outcome.WorldError.{WorldError}
use Rattle.geo_world.specs.declared.outcome.WorldError.TheVariants.{Setups, BadEvent, Memory}
use Rattle.geo_world.specs.Setups.{are_setups, start}
use Rattle.geo_world.specs.There.{is_there, all_there, EachThere, CannotCome}
use Rattle.geo_world.specs.Agreement.{Agrees}
use Rattle.geo_world.specs.Tables.{Tables, kept, Keep, EachTallies}

pub record HasAllRun (first : Known) (none : Tables) (sites : List Site) (parcels : List Parcel) (events : List Event) (traces : List Trace) : Type 0 where
  pub told : length traces ≡ length events
  pub lawful : EachLawful first events traces
  pub there : EachThere (length sites) first events traces
  pub agrees : Agrees sites parcels (known first events traces)
  pub tallies : EachTallies first none events traces
  pub keep : Keep sites parcels (kept first none events traces)

-- a parcel was not made, or not taken, for want of memory
abbrev pub wants_memory : Trace → Bool
wants_memory (SendRefused send.Memory) = true
wants_memory (TakeRefused taking.Memory) = true
wants_memory trace = false

-- the event at an index is not there, as a parcel was not made for a site that its sender holds for retired: the events before it have
-- traces that they can have, none of which tells that memory was wanted for a parcel
pub record Lacks (sites : ℕ) (first : Known) (events : List Event) (index : ℕ) : Type 0 where
  pub traces : List Trace
  pub told : length traces ≡ index
  pub lawful : EachLawful first (take index events) traces
  pub there : EachThere sites first (take index events) traces
  pub spared : list_any wants_memory traces ≡ false
  pub event : Event
  pub at : slice_get events index ≡ Some event
  pub missing : is_there sites (length (known first (take index events) traces).sent) event ≡ false

-- why a run has no outcome: an event cannot be there, whatever comes of those before it, or it lacks a parcel for a retired site; or
-- memory was wanted where each event can be
abbrev pub RunRefuses : List Setup → List Event → WorldError → Type 0
RunRefuses setups events Setups = are_setups setups ≡ false
RunRefuses setups events (BadEvent index) = (are_setups setups ≡ true)
    × (CannotCome (length setups) events index ⊎ Lacks (length setups) (start setups) events index)
RunRefuses setups events Memory = (are_setups setups ≡ true) × (all_there (length setups) 0 events ≡ true)

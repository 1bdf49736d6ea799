-- What is carried out at all sites, one event after the other.
use Rattle.std.specs.Prelude.{◌≡◌, ◌↔◌, ◌≢◌, IsTrue, ℕ, ◌-◌, Bool, true, false, List, [], ◌∷◌, ◌++◌, length, Option, None, Some, slice_get}
use Rattle.geo_stamp.specs.Vectors.{vector_joined}
use Rattle.geo_records.specs.Operations.{version_in, version_of}
use Rattle.geo_records.specs.declared.version.Version.{Version}
use Rattle.geo_delta.specs.declared.parcel.Parcel.{Parcel}
use Rattle.geo_site.specs.declared.site.Site.{Site}
use Rattle.geo_world.specs.declared.event.Event.{Event as Happening}
use Rattle.geo_world.specs.declared.event.Trace.{Trace}
use Rattle.geo_site.specs.Entries.{Held}
use Rattle.geo_site.specs.Machine.{IsHeldCount}
use Rattle.geo_site.specs.Sites.{state_in}
use Rattle.geo_world.specs.Schedule.{Known, happens, known}
use Rattle.geo_history.specs.declared.history.History.{History}
use Rattle.geo_site.specs.declared.event.Event.{Event}
use Rattle.geo_site.specs.declared.event.Event.TheVariants.{Take}
use Rattle.geo_site.specs.declared.event.Answer.{Answer}
use Rattle.geo_site.specs.declared.event.Answer.TheVariants.{Sent}
use Rattle.geo_history.specs.declared.step.Step.{Step}
use Rattle.geo_world.specs.Setups.{are_setups}
use Rattle.geo_world.specs.There.{is_there}
use Rattle.geo_world.specs.Tables.{Tables, kept}
use Rattle.geo_audit.specs.declared.play.Play.{Play}
use Rattle.geo_audit.specs.declared.replay.Seen.{Seen}
use Rattle.geo_audit.specs.Runs.{events_of, traces_of, turn_of, setups_in, first_of, none_of, IsUndue, Undue, Brings, TellsBeside, IsToldBy, IsSaid, IsTold, Fits, IsRun}

-- what was carried out so far is a run with these traces
abbrev pub Plays : Known → Tables → Play → List Trace → Type 0
Plays first none play traces = IsRun first none play.world.sites.items play.world.parcels.items play.events.items traces

-- it goes on with these events, of which these traces come
pub record Leads (old new : Play) (events : List Happening) (traces : List Trace) : Type 0 where
  pub as_many : length new.world.sites.items ≡ length old.world.sites.items
  pub events_are : new.events.items ≡ old.events.items ++ events
  pub runs : (first : Known) (none : Tables) (before : List Trace) → Plays first none old before → Plays first none new (before ++ traces)

-- what is known, and what is kept, in a run
abbrev pub known_in : Known → Play → List Trace → Known
known_in first play traces = known first play.events.items traces

abbrev pub kept_in : Known → Tables → Play → List Trace → Tables
kept_in first none play traces = kept first none play.events.items traces

-- whatever the run, this holds of what is known and kept
abbrev pub Always : Play → (Known → Tables → Type 0) → Type 0
Always play P = (first : Known) (none : Tables) (traces : List Trace) → Plays first none play traces
    → P (known_in first play traces) (kept_in first none play traces)

-- sites that know nothing, or are not set up so
pub record HasOpened (histories : List History) (play : Play) : Type 0 where
  pub setups : are_setups (setups_in histories) ≡ true
  pub as_many : length play.world.sites.items ≡ length histories
  pub events : play.events.items ≡ []
  pub runs : IsRun (first_of histories) (none_of histories) play.world.sites.items play.world.parcels.items [] []

abbrev pub Opens : List History → Option Play → Type 0
Opens histories (Some play) = HasOpened histories play
Opens histories None = are_setups (setups_in histories) ≡ false

-- one event is carried out, of which this comes, or it names a site or a parcel that is not there
pub record ComesOf (old new : Play) (event : Happening) (trace : Trace) : Type 0 where
  pub leads : Leads old new (event ∷ []) (trace ∷ [])
  pub said : IsSaid trace

abbrev pub Happens : Play → Play → Happening → Option Trace → Type 0
Happens old new event (Some trace) = ComesOf old new event trace
Happens old new event None = is_there (length old.world.sites.items) (length old.world.parcels.items) event ≡ false

-- no flush is due, and nothing changes; or one is
pub record StaysFor (old new : Play) (site : ℕ) (event : Event) : Type 0 where
  pub leads : Leads old new [] []
  pub undue : Always old (λ w all. Undue w site event)

abbrev pub FlushesFor : Play → ℕ → Event → Type 0
FlushesFor old site event = Always old (λ w all. Undue w site event → ⊥)

pub record StaysAt (old new : Play) (site now : ℕ) : Type 0 where
  pub leads : Leads old new [] []
  pub undue : Always old (λ w all. IsUndue w site now)

abbrev pub FlushesAt : Play → ℕ → ℕ → Type 0
FlushesAt old site now = Always old (λ w all. IsUndue w site now → ⊥)

-- what is seen of a site before an event: whether a parcel that comes knows more, and how many values are held
abbrev pub Rises : List ℕ → Event → Bool → Type 0
Rises vector (Take parcel) rose = IsTrue rose ↔ (vector_joined vector parcel.upto ≢ vector)
Rises vector event rose = Unit {0}

pub record Sees (vector : List ℕ) (held : Held) (event : Event) (seen : Seen) : Type 0 where
  pub rises : Rises vector event seen.rose
  pub items : IsHeldCount held seen.items

-- what is named at a site
abbrev pub versions_at : Site → List ℕ → Option Version
versions_at site key = version_in ((state_in site).map key)

-- the parcel that an answer tells of, if any, is the last of these
abbrev pub EndsWith : List Parcel → Answer → Type 0
EndsWith parcels (Sent parcel) = slice_get parcels (length parcels - 1) ≡ Some parcel
EndsWith parcels answer = Unit {0}

-- one event is carried out, and what comes of it is what the step tells
pub record ComesAsTold (old new : Play) (site : ℕ) (happening : Happening) (step : Step) : Type 0 where
  pub trace : Trace
  pub leads : Leads old new (happening ∷ []) (trace ∷ [])
  pub told : IsToldBy trace step.answer
  pub said : IsSaid trace
  pub brings : Always old (λ w all. Brings w all site step.event step.answer)
  pub beside : Always old
      (λ w all. TellsBeside (all.at site).vector (w.held site) ((happens w happening trace).held site)
      (version_of ((happens w happening trace).at site)) step.event step.answer step.victim step.made)

-- a step is carried out, and what comes of it is what it tells
pub record Replays (old new : Play) (site number : ℕ) (step : Step) : Type 0 where
  pub trace : Trace
  pub leads : Leads old new (events_of (turn_of site number step trace)) (traces_of (turn_of site number step trace))
  pub told : IsTold (turn_of site number step trace)
  pub fits : Always old
      (λ w all. Fits w all (known w (events_of (turn_of site number step trace)) (traces_of (turn_of site number step trace)))
      (turn_of site number step trace))

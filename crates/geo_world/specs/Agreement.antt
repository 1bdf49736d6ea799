-- Sites and parcels of the code are what is known of them.
use Rattle.std.specs.Prelude.{Result, Ok, Err, ◌≡◌, ◌≢◌, ℕ, ◌+◌, ◌≤◌, Bool, true, false, List, [], length, Option, Some, None, slice_get, slice_index_or}
use Rattle.geo_stamp.specs.Acks.{row_of, horizon_of}
use Rattle.geo_stamp.specs.Retired.{no_sites, set_fits}
use Rattle.geo_records.specs.Operations.{Operation, Among, version_in, version_of, floor_of}
use Rattle.geo_delta.specs.declared.parcel.Parcel.{Parcel}
use Rattle.geo_site.specs.declared.site.Site.{Site}
use Rattle.geo_site.specs.Entries.{Held, Counts, none_counted}
use Rattle.geo_site.specs.Machine.{knows_floor}
use Rattle.geo_site.specs.Sites.{state_in, counts_in, waiting_in, limits_of, heard_in, retired_in, delta_of, knows_all}
use Rattle.geo_world.specs.Schedule.{Known, Sending, never_sent, happens, Lawful}
use Rattle.geo_site.specs.declared.setup.Setup.{Setup}
use Rattle.geo_site.specs.declared.setup.Limits.{Limits}
use Rattle.geo_world.specs.declared.event.Event.{Event}
use Rattle.geo_world.specs.declared.event.Event.TheVariants.{Command, Evict, Send, Take, Remove, Tick, Reap, Fill, Retire}
use Rattle.geo_world.specs.declared.event.Trace.{Trace}
use Rattle.geo_world.specs.Holding.{StateOf, DeltaOf}
use Rattle.geo_world.specs.declared.outcome.WorldError.{WorldError}
use Rattle.geo_world.specs.declared.outcome.WorldError.TheVariants.{Setups, BadEvent, Memory}
use Rattle.geo_world.specs.declared.world.World.{World}
use Rattle.geo_world.specs.Setups.{are_setups, start}
use Rattle.geo_world.specs.There.{is_there}
use Rattle.geo_world.specs.Reports.{OneOf, Reported, HasPassed}
use Rattle.geo_world.specs.Bounds.{Bounded, vectors, rows, reached, views}

-- what is known of one site
pub record SiteKnown : Type 0 where
  pub ops : List Operation
  pub held : Held
  pub counts : Counts
  pub waiting : Option ℕ
  pub limits : Limits
  pub set : List Bool

abbrev pub about : Known → ℕ → SiteKnown
about w number = record {
  ops = w.at number;
  held = w.held number;
  counts = w.counts number;
  waiting = w.waiting number;
  limits = w.limits number;
  set = w.sets number;
}

abbrev pub nothing_about : Limits → SiteKnown
nothing_about limits = record { ops = []; held = λ _. None; counts = none_counted; waiting = None; limits = limits; set = no_sites }

-- the site has this number among so many, and is what is known of it, but for what it dropped up to the horizon that it answers, or
-- one before it
pub record Stands (sites number : ℕ) (site : Site) (known : SiteKnown) : Type 0 where
  pub own : site.number ≡ number
  pub horizon : ℕ
  pub state : StateOf sites number horizon (state_in site) known.ops known.held
  pub reached : horizon ≤ horizon_of (heard_in site) number site.vector
  pub counts : counts_in site ≡ known.counts
  pub waiting : waiting_in site ≡ known.waiting
  pub limits : limits_of site ≡ known.limits
  pub set : retired_in site ≡ known.set
  pub rows : (other : ℕ) → 1 ≤ other → other ≤ sites → length (row_of (heard_in site).rows other) ≡ sites

-- the addressee knows all up to a time that the sender knew
abbrev pub Reaches : (ℕ → List Operation) → Sending → ℕ → Type 0
Reaches at sent time = (op : Operation) → Among sent.ops op → op.stamp.time ≤ time → Among (at sent.to) op

-- the parcel is for its addressee, from another site, knows all its stamps, holds no site for retired that is not there, and is what its
-- sender knew and the base does not, but for what the addressee knows
pub record Carries (sites : ℕ) (at : ℕ → List Operation) (parcel : Parcel) (sent : Sending) : Type 0 where
  pub sender : parcel.from ≡ sent.from
  pub addressee : parcel.to ≡ sent.to
  pub retired : parcel.retired ≡ sent.set
  pub fits : set_fits sites parcel.retired ≡ true
  pub other : parcel.from ≢ parcel.to
  pub from_first : 1 ≤ parcel.from
  pub from_last : parcel.from ≤ sites
  pub base : length parcel.base ≡ sites
  pub floor_known : knows_floor parcel.upto parcel.floor ≡ true
  pub records_known : knows_all parcel.upto parcel.records ≡ true
  pub delta : DeltaOf sites parcel.from (Reaches at sent) parcel.base (delta_of parcel) sent.ops

-- each site and each parcel is what is known of it, no vector promises more than is known, what is told of sets holds, and each site has
-- passed the horizon that it kept
pub record Agrees (sites : List Site) (parcels : List Parcel) (w : Known) : Type 0 where
  pub each : (k number : ℕ) (site : Site) → number ≡ k + 1 → slice_get sites k ≡ Some site
      → Stands (length sites) number site (about w number)
  pub numbers : w.sites ≡ length sites
  pub as_many : length w.sent ≡ length parcels
  pub each_sent : (p : ℕ) (parcel : Parcel) → slice_get parcels p ≡ Some parcel
      → Carries (length sites) w.at parcel (slice_index_or w.sent p never_sent)
  pub bounds : Bounded (length sites) (vectors sites) (rows sites) parcels w.at w.sent
  pub reports : Reported (length sites) (views sites) parcels
  pub passed : (p : ℕ) → OneOf (length sites) p → HasPassed (length sites) (views sites) p (reached sites p)

-- the site's floor and versions are those that the operations name
pub record ShowsVersions (site : Site) (ops : List Operation) : Type 0 where
  pub floor : (state_in site).floor ≡ floor_of ops
  pub versions : (key : List ℕ) → version_in ((state_in site).map key) ≡ version_of ops key

pub record SameVersions (one other : Site) : Type 0 where
  pub floor : (state_in one).floor ≡ (state_in other).floor
  pub versions : (key : List ℕ) → version_in ((state_in one).map key) ≡ version_in ((state_in other).map key)

-- what opening a world does, by its result
abbrev pub WorldOpens : List Setup → Result World WorldError → Type 0
WorldOpens setups (Ok world) = (are_setups setups ≡ true) × (length world.sites.items ≡ length setups)
    × Agrees world.sites.items world.parcels.items (start setups)
WorldOpens setups (Err Setups) = are_setups setups ≡ false
WorldOpens setups (Err (BadEvent index)) = ⊥
WorldOpens setups (Err Memory) = are_setups setups ≡ true

-- whatever is known of the world, the trace is one that the event can have there, and what is known of it then is what comes of both
abbrev pub HasLawfulTrace : World → Event → Trace → Type 0
HasLawfulTrace old event trace = (w : Known) → Agrees old.sites.items old.parcels.items w → Lawful w event trace

abbrev pub LeadsOn : World → World → Event → Trace → Type 0
LeadsOn old new event trace =
    (w : Known) → Agrees old.sites.items old.parcels.items w → Agrees new.sites.items new.parcels.items (happens w event trace)

-- two worlds have the same sites and parcels
abbrev pub SameWorld : World → World → Type 0
SameWorld old new = (new.sites.items ≡ old.sites.items) × (new.parcels.items ≡ old.parcels.items)

-- a world asks for memory of its own for a parcel that is sent, and for the copy of one that is taken
abbrev pub moves_parcel : Event → Bool
moves_parcel (Command site now request) = false
moves_parcel (Evict site key) = false
moves_parcel (Send site to) = true
moves_parcel (Take site parcel) = true
moves_parcel (Remove site) = false
moves_parcel (Tick site now) = false
moves_parcel (Reap site now key) = false
moves_parcel (Fill site key bytes) = false
moves_parcel (Retire site other) = false

-- what a step does, by its result: it is lawful and keeps the agreement; or its event is not there, or memory was wanted for a parcel,
-- and the world is as it was
abbrev pub StepDoes : World → World → Event → ℕ → Result Trace WorldError → Type 0
StepDoes old new event index (Ok trace) = (is_there (length old.sites.items) (length old.parcels.items) event ≡ true)
    × ((w : Known) → Agrees old.sites.items old.parcels.items w → Lawful w event trace
    × Agrees new.sites.items new.parcels.items (happens w event trace))
StepDoes old new event index (Err Setups) = ⊥
StepDoes old new event index (Err (BadEvent at)) = (at ≡ index)
    × (is_there (length old.sites.items) (length old.parcels.items) event ≡ false) × SameWorld old new
StepDoes old new event index (Err Memory) = (is_there (length old.sites.items) (length old.parcels.items) event ≡ true)
    × (moves_parcel event ≡ true) × SameWorld old new

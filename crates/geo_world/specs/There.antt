-- Events whose sites and parcels are there, and whose moments are in range.
use Rattle.std.specs.Prelude.{◌≡◌, ℕ, ◌+◌, ◌^◌, Bool, true, false, cond, ◌==◌, ◌&&◌, nat_le, nat_lt, List, [], ◌∷◌, length, Option, None, Some, take, slice_get}
use Rattle.std.specs.List.{list_all}
use Rattle.geo_world.specs.declared.event.Event.{Event}
use Rattle.geo_world.specs.declared.event.Event.TheVariants.{Command, Evict, Send, Take, Remove, Tick, Reap, Fill, Retire}
use Rattle.geo_world.specs.declared.event.Trace.{Trace}
use Rattle.geo_world.specs.Schedule.{Known, happens}

-- one of the sites
abbrev pub is_site : ℕ → ℕ → Bool
is_site sites number = nat_le 1 number && nat_le number sites

-- the event's sites are there, and so is its parcel among so many that were sent
abbrev pub is_there : ℕ → ℕ → Event → Bool
is_there sites parcels (Command site now request) = is_site sites site
is_there sites parcels (Evict site key) = is_site sites site
is_there sites parcels (Send site to) = is_site sites site && is_site sites to
is_there sites parcels (Take site parcel) = is_site sites site && nat_lt parcel parcels
is_there sites parcels (Remove site) = is_site sites site
is_there sites parcels (Tick site now) = is_site sites site
is_there sites parcels (Reap site now key) = is_site sites site
is_there sites parcels (Fill site key bytes) = is_site sites site
is_there sites parcels (Retire site other) = is_site sites site && is_site sites other

-- how many parcels there are after an event, where a send to another site makes one
abbrev pub made_by : ℕ → Event → ℕ
made_by parcels (Command site now request) = parcels
made_by parcels (Evict site key) = parcels
made_by parcels (Send site to) = cond (site == to) parcels (parcels + 1)
made_by parcels (Take site parcel) = parcels
made_by parcels (Remove site) = parcels
made_by parcels (Tick site now) = parcels
made_by parcels (Reap site now key) = parcels
made_by parcels (Fill site key bytes) = parcels
made_by parcels (Retire site other) = parcels

abbrev pub made_in : ℕ → List Event → ℕ
made_in parcels [] = parcels
made_in parcels (event ∷ events) = made_in (made_by parcels event) events

-- each event is there, where every send to another site makes its parcel
abbrev pub all_there : ℕ → ℕ → List Event → Bool
all_there sites parcels [] = true
all_there sites parcels (event ∷ events) = is_there sites parcels event && all_there sites (made_by parcels event) events

-- the event at the index is the first that is not there, whatever comes of those before it
pub record CannotCome (sites : ℕ) (events : List Event) (index : ℕ) : Type 0 where
  pub before : all_there sites 0 (take index events) ≡ true
  pub event : Event
  pub at : slice_get events index ≡ Some event
  pub missing : is_there sites (made_in 0 (take index events)) event ≡ false

-- which event that is, if there is one
abbrev pub FirstMissing : ℕ → List Event → Option ℕ → Type 0
FirstMissing sites events None = all_there sites 0 events ≡ true
FirstMissing sites events (Some index) = CannotCome sites events index

-- the moment of an event, in seconds, is at most 2^40
abbrev pub is_in_time : Event → Bool
is_in_time (Command site now request) = nat_le now (2 ^ 40)
is_in_time (Evict site key) = true
is_in_time (Send site to) = true
is_in_time (Take site parcel) = true
is_in_time (Remove site) = true
is_in_time (Tick site now) = nat_le now (2 ^ 40)
is_in_time (Reap site now key) = nat_le now (2 ^ 40)
is_in_time (Fill site key bytes) = true
is_in_time (Retire site other) = true

abbrev pub all_in_time : List Event → Bool
all_in_time events = list_all is_in_time events

-- each event is there when it comes
abbrev pub EachThere : ℕ → Known → List Event → List Trace → Type 0
EachThere sites w [] traces = Unit {0}
EachThere sites w (event ∷ events) [] = Unit {0}
EachThere sites w (event ∷ events) (trace ∷ traces) = (is_there sites (length w.sent) event ≡ true)
    × EachThere sites (happens w event trace) events traces

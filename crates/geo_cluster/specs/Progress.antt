-- What a script has come to: a schedule of events over its sites, what came of each, and what its clients sent.
use Rattle.std.specs.Prelude.{ℕ, List, [], ◌∷◌, ◌++◌, length, Bool}
use Rattle.geo_world.specs.Schedule.{Known, known, EachLawful}
use Rattle.geo_world.specs.Served.{NoCollision, AllServe}
use Rattle.geo_world.specs.declared.event.Event.{Event}
use Rattle.geo_world.specs.declared.event.Trace.{Trace}
use Rattle.geo_site.specs.declared.setup.Setup.{Setup}
use Rattle.geo_site.specs.declared.site.Site.{Site}
use Rattle.geo_world.specs.Setups.{start}
use Rattle.geo_world.specs.Doing.{RunsAlone}
use Rattle.geo_world.specs.There.{is_there, EachThere}
use Rattle.geo_world.specs.Tables.{empty_tables, EachTallies}
use Rattle.geo_world.specs.Surviving.{named, EachStable}
use Rattle.geo_cluster.specs.declared.script.connection.Connection.{Connection}

-- the moment, what each site was told at its start, the events with their traces, and the connection of each site's client
pub record Progress : Type 0 where
  pub moment : ℕ
  pub setups : List Setup
  pub events : List Event
  pub traces : List Trace
  pub connections : List Connection

-- before the first line the moment is 1, and no site is there
abbrev pub opening : Progress
opening = record { moment = 1; setups = []; events = []; traces = []; connections = [] }

-- what each site then knows and holds, and what each parcel brings
abbrev pub known_in : Progress → Known
known_in p = known (start p.setups) p.events p.traces

-- how many parcels were sent
abbrev pub parcels_in : Progress → ℕ
parcels_in p = length (known_in p).sent

-- an event can come: its sites and its parcel are there
abbrev pub can_come : Progress → Event → Bool
can_come p event = is_there (length p.setups) (parcels_in p) event

-- it comes, and this comes of it
abbrev pub followed : Progress → Event → Trace → Progress
followed p event trace = record {
  moment = p.moment;
  setups = p.setups;
  events = p.events ++ event ∷ [];
  traces = p.traces ++ trace ∷ [];
  connections = p.connections;
}

-- the traces are those of a run: each event is there when it comes, each trace is one that its event can have, and tells what its site
-- keeps; values in replies are what was written, unless two that were written or offered have one SHA-256; what removals go by is stable
-- among the sites that no retirement names; and the sites that the setups open, each with the pages that it is told, did all this one
-- event after the other
pub record Runs (setups : List Setup) (events : List Event) (traces : List Trace) : Type 0 where
  pub there : EachThere (length setups) (start setups) events traces
  pub lawful : EachLawful (start setups) events traces
  pub tallies : EachTallies (start setups) (empty_tables (length setups)) events traces
  pub serves : NoCollision (known (start setups) events traces) events → AllServe (start setups) events traces
  pub survivors : EachStable (named events) (start setups) events traces
  pub sites : List Site
  pub alone : RunsAlone setups events traces sites

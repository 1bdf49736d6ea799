-- The sites that no retirement of a schedule names, and what removals promise among them.
use Rattle.std.specs.Prelude.{ℕ, cond, ◌==◌, Bool, List, [], ◌∷◌}
use Rattle.geo_stamp.specs.Retired.{no_sites, with_site}
use Rattle.geo_world.specs.declared.event.Event.{Event}
use Rattle.geo_world.specs.declared.event.Event.TheVariants.{Remove, Retire}
use Rattle.geo_world.specs.declared.event.Trace.{Trace}
use Rattle.geo_world.specs.declared.event.Trace.TheVariants.{Removed}
use Rattle.geo_world.specs.Schedule.{Known, StableAt, happens}

-- the sites that a retirement names, at whichever site but their own
abbrev pub named : List Event → List Bool
named [] = no_sites
named (Retire site other ∷ events) = cond (other == site) (named events) (with_site (named events) other)
named (event ∷ events) = named events

-- the horizon of a removal is stable among the sites outside of a set
abbrev pub IsStable : List Bool → Known → Event → Trace → Type 0
IsStable set w (Remove site) (Removed horizon count) = StableAt w.sites set w.at horizon
IsStable set w event trace = Unit {0}

-- each is
abbrev pub EachStable : List Bool → Known → List Event → List Trace → Type 0
EachStable set w [] traces = Unit {0}
EachStable set w (event ∷ events) [] = Unit {0}
EachStable set w (event ∷ events) (trace ∷ traces) = IsStable set w event trace × EachStable set (happens w event trace) events traces

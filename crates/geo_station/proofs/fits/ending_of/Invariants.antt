use Rattle.std.proofs.Common.{length, take, ◌≤◌}
use Rattle.geo_station.specs.declared.fits.Ending.{Ending}
use Rattle.geo_station.specs.Seats.{calls_of}
use Rattle.geo_station.specs.Endings.{EndsSo}
use Rattle.geo_station.proofs.fits.ending_of.Given as goal

-- however the calls that are left end, all of them end so
abbrev pub invariant-loop-step : goal.invariant-loop-step
invariant-loop-step l = (l.count ≤ length l.fn.steps.items) × ((e : Ending) → EndsSo e (calls_of l.fn.seat (take l.count l.fn.steps.items)) l.left → EndsSo e (calls_of l.fn.seat l.fn.steps.items) l.fn.kept)

abbrev pub decreases-loop-step : goal.decreases-loop-step
decreases-loop-step l = l.count

use Rattle.std.proofs.Common.{ap, sym}
use Rattle.geo_station.specs.Seats.{calls_bytes}
use Rattle.geo_station.proofs.calls.Calls.new.Goals as goal

pub invariant_of-result : goal.invariant_of-result
invariant_of-result c = record { counted = ap calls_bytes (sym c.new.ensures.items) }

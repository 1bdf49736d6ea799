use Rattle.std.proofs.Common.{ap, sym, ◌∙◌}
use Rattle.geo_station.specs.Seats.{calls_bytes}
use Rattle.geo_station.proofs.calls.Calls.reserve.Goals as goal

pub invariant_of-self : goal.invariant_of-self
invariant_of-self c = record { counted = c.args.self.now.counted ∙ ap calls_bytes (sym c.reserve.ensures.items) }

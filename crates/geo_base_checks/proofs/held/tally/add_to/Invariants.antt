use Rattle.std.proofs.Common.{◌≡◌}
use Rattle.geo_base_checks.proofs.held.tally.add_to.Given as goal

abbrev pub invariant-loop : goal.invariant-loop
invariant-loop l = l.seat.tally ≡ l.tally.tally

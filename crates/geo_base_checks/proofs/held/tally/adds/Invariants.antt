use Rattle.std.proofs.Common.{◌≡◌}
use Rattle.geo_base_checks.proofs.held.tally.adds.Given as goal

abbrev pub invariant-loop-done : goal.invariant-loop-done
invariant-loop-done l = l.seat.tally ≡ l.tally.tally

use Rattle.std.proofs.Common.{◌≡◌}
use Rattle.geo_station.proofs.desk.Desk.juggle_class.Given as goal

abbrev pub invariant-loop-count : goal.invariant-loop-count
invariant-loop-count g l = (l.class ≡ l.fn.class) × (l.self.journal ≡ l.fn.self.journal)

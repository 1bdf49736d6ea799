use Rattle.std.proofs.Common.{◌≡◌, ◌≤◌, ◌*◌}
use Rattle.geo_station.proofs.desk.Desk.juggle.Given as goal

abbrev pub invariant-loop-class : goal.invariant-loop-class
invariant-loop-class g l = (l.count ≤ l.class * 64) × (l.self.journal ≡ l.fn.self.journal)

use Rattle.std.proofs.Common.{◌-◌}
use Rattle.geo_records.proofs.ByEight.{SameUpTo}
use Rattle.geo_records.proofs.order.order.Given as goal

-- what was compared is the same in both
abbrev pub invariant-loop-from : goal.invariant-loop-from
invariant-loop-from l = SameUpTo l.a l.b l.from

abbrev pub decreases-loop-from : goal.decreases-loop-from
decreases-loop-from l = l.last - l.from

use Rattle.std.proofs.Common.{◌-◌, ◌≤◌, length}
use Rattle.geo_maps.proofs.coming.Coming.next_below.Given as goal

-- it goes on
abbrev pub invariant-loop-index : goal.invariant-loop-index
invariant-loop-index l = l.from ≤ l.index

abbrev pub decreases-loop-index : goal.decreases-loop-index
decreases-loop-index l = length l.self.order.items - l.index

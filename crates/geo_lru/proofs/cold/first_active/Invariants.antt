use Rattle.std.proofs.Common.{length}
use Rattle.geo_lru.specs.Placed.{EachActive, IsIndexed}
use Rattle.geo_lru.proofs.cold.first_active.Given as goal

abbrev pub invariant-loop-place : goal.invariant-loop-place
invariant-loop-place l = EachActive (IsIndexed l.index) l.entries.entries

abbrev pub decreases-loop-place : goal.decreases-loop-place
decreases-loop-place l = length l.index.entries

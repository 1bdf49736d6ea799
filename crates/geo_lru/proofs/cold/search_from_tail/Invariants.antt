use Rattle.std.proofs.Common.{◌≡◌, length}
use Rattle.geo_lru.specs.Lists.{last_active}
use Rattle.geo_lru.specs.Placed.{seen}
use Rattle.geo_lru.proofs.cold.search_from_tail.Given as goal

abbrev pub invariant-loop-item : goal.invariant-loop-item
invariant-loop-item l = last_active (seen l.entries.entries) ≡ last_active (seen l.rest)

abbrev pub decreases-loop-item : goal.decreases-loop-item
decreases-loop-item l = length l.rest

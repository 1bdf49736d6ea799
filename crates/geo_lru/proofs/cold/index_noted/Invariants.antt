use Rattle.std.proofs.Common.{ℕ}
use Rattle.geo_lru.specs.Placed.{IsFiled}
use Rattle.geo_lru.proofs.cold.index_noted.Given as goal

abbrev pub invariant-loop-place : goal.invariant-loop-place
invariant-loop-place l = (q i : ℕ) → IsFiled l.initial.noted.items l.initial.index q i → IsFiled l.noted.items l.index q i

abbrev pub decreases-loop-place : goal.decreases-loop-place
decreases-loop-place l = goal.left-loop-place l

use Rattle.std.proofs.Common.{◌-◌, ℕ, ◌≤◌, ◌<◌}
use Rattle.geo_slabs.specs.Storage.{chunk_bytes}
use Rattle.geo_slabs.proofs.slabs.class_of.Given as goal

abbrev pub invariant-loop-class : goal.invariant-loop-class
invariant-loop-class l = (l.class ≤ 14) × ((other : ℕ) → other < l.class → chunk_bytes other < l.length)

abbrev pub decreases-loop-class : goal.decreases-loop-class
decreases-loop-class l = 15 - l.class

use Rattle.std.proofs.Common.{◌≡◌, ℕ, List, ◌++◌, length, Contains}
use Rattle.geo_lru.specs.declared.cold.Placed.{Placed}
use Rattle.geo_lru.specs.Placed.{EachActive}
use Rattle.geo_lru.proofs.cold.note_all.Given as goal

-- the items that the walk has passed are noted
abbrev pub invariant-loop-item : goal.invariant-loop-item
invariant-loop-item l = (done : List (ℕ × Placed)) × (l.entries.entries ≡ l.items ++ done) × EachActive (λ q i. Contains l.noted.items (q, i)) done

abbrev pub decreases-loop-item : goal.decreases-loop-item
decreases-loop-item l = length l.items

use Rattle.std.proofs.Common.{◌≤◌, ◌-◌, ◌<◌, ℕ, IsSomeAnd, length, slice_get}
use Rattle.geo_maps.proofs.column.Column.next_low.Given as goal

-- each measure that was passed is above the bound, and counted
abbrev pub invariant-loop-place : goal.invariant-loop-place
invariant-loop-place g l = record {
  on : l.from ≤ l.place;
  least : l.lowest ≤ l.least;
  above : (j : ℕ) → l.from ≤ j → j < l.place → IsSomeAnd (slice_get l.self.others.items j) (λ m. (l.most < m) × (l.lowest ≤ m));
}

abbrev pub decreases-loop-place : goal.decreases-loop-place
decreases-loop-place g l = length l.self.others.items - l.place

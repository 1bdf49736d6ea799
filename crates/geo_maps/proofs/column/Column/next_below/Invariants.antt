use Rattle.std.proofs.Common.{◌≤◌, ◌<◌, ◌-◌, ℕ, length, slice_get, IsSomeAnd}
use Rattle.geo_maps.proofs.column.Column.next_below.Given as goal

-- each measure that was passed is at the bound or above
abbrev pub invariant-loop-place : goal.invariant-loop-place
invariant-loop-place g l = record {
  on : l.from ≤ l.place;
  above : (j : ℕ) → l.from ≤ j → j < l.place → IsSomeAnd (slice_get l.self.measures.items j) (λ m. l.bound ≤ m);
}

abbrev pub decreases-loop-place : goal.decreases-loop-place
decreases-loop-place g l = length l.self.measures.items - l.place

abbrev pub invariant-loop-place-2 : goal.invariant-loop-place-2
invariant-loop-place-2 g l = record {
  on : l.from ≤ l.place;
  above : (j : ℕ) → l.from ≤ j → j < l.place → IsSomeAnd (slice_get l.self.measures.items j) (λ m. l.bound ≤ m);
}

abbrev pub decreases-loop-place-2 : goal.decreases-loop-place-2
decreases-loop-place-2 g l = length l.self.measures.items - l.place

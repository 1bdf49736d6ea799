use Rattle.std.proofs.Common.{◌≡◌, ◌<◌, ℕ, Some, slice_get, slice_index}
use Rattle.geo_history.specs.declared.history.History.{History}
use Rattle.geo_audit.specs.Merging.{Halts}
use Rattle.geo_audit.proofs.merge.Merge.least.Given as goal

-- those before can't go on
abbrev pub invariant-loop-at : goal.invariant-loop-at
invariant-loop-at l = (k : ℕ) (h : History) → k < l.at → slice_get l.histories k ≡ Some h → Halts l.histories l.self.sent.places.items h (slice_index l.self.counts.items k)

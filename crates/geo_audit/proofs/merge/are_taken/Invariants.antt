use Rattle.std.proofs.Common.{◌≡◌, ◌<◌, ℕ, Some, slice_get, slice_index, length}
use Rattle.geo_history.specs.declared.history.History.{History}
use Rattle.geo_audit.proofs.merge.are_taken.Given as goal

-- those before are taken
abbrev pub invariant-loop-at : goal.invariant-loop-at
invariant-loop-at l = (k : ℕ) (h : History) → k < l.at → slice_get l.histories k ≡ Some h → slice_index l.counts k ≡ length h.steps.items

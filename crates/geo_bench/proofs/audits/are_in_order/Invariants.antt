use Rattle.std.proofs.Common.{◌≡◌, ℕ, ◌+◌, ◌<◌, Some, slice_get}
use Rattle.geo_history.specs.declared.history.History.{History}
use Rattle.geo_bench.proofs.audits.are_in_order.Given as goal

-- those so far are in order
abbrev pub invariant-loop-at : goal.invariant-loop-at
invariant-loop-at l = (k : ℕ) (h : History) → k < l.at → slice_get l.histories k ≡ Some h → h.setup.site ≡ k + 1

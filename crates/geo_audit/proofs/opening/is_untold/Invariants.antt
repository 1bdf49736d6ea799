use Rattle.std.proofs.Common.{◌≡◌, ◌≤◌, ◌<◌, ℕ, true}
use Rattle.geo_stamp.specs.Acks.{told_of}
use Rattle.geo_stamp.specs.Retired.{set_fits}
use Rattle.geo_audit.proofs.opening.is_untold.Given as goal

-- those before told none
abbrev pub invariant-loop-at : goal.invariant-loop-at
invariant-loop-at l = (s : ℕ) → 1 ≤ s → s < l.at → set_fits 0 (told_of l.rows.told s) ≡ true

use Rattle.std.proofs.Common.{◌≡◌, ◌≤◌, ◌<◌, ℕ}
use Rattle.geo_stamp.specs.Acks.{row_of}
use Rattle.geo_stamp.specs.Vectors.{zeros}
use Rattle.geo_audit.proofs.opening.is_silent.Given as goal

-- the rows before are zero
abbrev pub invariant-loop-at : goal.invariant-loop-at
invariant-loop-at l = (s : ℕ) → 1 ≤ s → s < l.at → row_of l.rows.rows s ≡ zeros l.sites

use Rattle.std.proofs.Common.{◌≡◌, ℕ, ◌≤◌, ◌<◌, false, get_or}
use Rattle.geo_stamp.proofs.retired.Retired.fits.Given as goal

abbrev pub invariant-loop-at : goal.invariant-loop-at
invariant-loop-at l = (k : ℕ) → k < l.at → l.sites ≤ k → get_or l.self-inside.sites k false ≡ false

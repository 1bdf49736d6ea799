use Rattle.std.proofs.Common.{◌≡◌, ℕ, ◌<◌, true, false, get_or}
use Rattle.geo_stamp.proofs.retired.RetiredLattice.covers.Given as goal

abbrev pub invariant-loop-i : goal.invariant-loop-i
invariant-loop-i l = (k : ℕ) → k < l.i → get_or l.other-inside.sites k false ≡ true → get_or l.self-inside.sites k false ≡ true

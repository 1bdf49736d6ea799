use Rattle.std.proofs.Common.{◌≡◌, length, take}
use Rattle.geo_equal.proofs.are_equal.Given as goal

-- what was compared is the same
abbrev pub invariant-loop-at : goal.invariant-loop-at
invariant-loop-at g l = (length l.two ≡ length l.one) × (take l.at l.one ≡ take l.at l.two)

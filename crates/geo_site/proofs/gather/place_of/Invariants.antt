use Rattle.std.proofs.Common.{◌≡◌, ◌≤◌, ◌++◌, ◌-◌, length, take, drop}
use Rattle.geo_site.specs.Fills.{placed}
use Rattle.geo_site.proofs.gather.place_of.Given as goal

-- the place is behind all that were passed
abbrev pub invariant-loop-at : goal.invariant-loop-at
invariant-loop-at l = record {
  within : l.at ≤ length l.found;
  split : placed l.key l.found ≡ take l.at l.found ++ placed l.key (drop l.at l.found);
}

abbrev pub decreases-loop-at : goal.decreases-loop-at
decreases-loop-at l = length l.found - l.at

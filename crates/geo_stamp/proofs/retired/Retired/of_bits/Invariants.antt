use Rattle.std.proofs.Common.{◌≡◌, ◌-◌, ◌++◌, length, take}
use Rattle.geo_stamp.specs.Retired.{bits_set}
use Rattle.geo_stamp.proofs.retired.Retired.of_bits.Given as goal

abbrev pub invariant-loop-at : goal.invariant-loop-at
invariant-loop-at l = record {
  many : length l.sites ≡ 16;
  read : take l.at l.sites ++ bits_set (16 - l.at) l.rest ≡ bits_set 16 l.bits;
}

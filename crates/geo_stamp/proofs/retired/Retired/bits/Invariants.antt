use Rattle.std.proofs.Common.{◌≡◌, ◌-◌, drop}
use Rattle.geo_stamp.specs.Retired.{set_bits}
use Rattle.geo_stamp.proofs.retired.Retired.bits.Given as goal

abbrev pub invariant-loop-before : goal.invariant-loop-before
invariant-loop-before l = l.bits ≡ set_bits (drop (16 - l.before) l.self-inside.sites)

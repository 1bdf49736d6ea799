use Rattle.std.proofs.Common.{◌≡◌, ◌≤◌, take}
use Rattle.geo_stamp.specs.Stamps.{last_time}
use Rattle.geo_stamp.specs.Vectors.{greatest_of}
use Rattle.geo_stamp.proofs.vector.Vector.greatest.Given as goal

abbrev pub invariant-loop-clock : goal.invariant-loop-clock
invariant-loop-clock l = record { is : l.top ≡ greatest_of (take l.clock-index l.clock-items); range : l.top ≤ last_time }

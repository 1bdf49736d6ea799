use Rattle.std.proofs.Common.{◌≡◌, ◌≤◌, take}
use Rattle.geo_stamp.specs.Stamps.{last_time}
use Rattle.geo_stamp.specs.Vectors.{least_of}
use Rattle.geo_stamp.proofs.vector.Vector.least.Given as goal

abbrev pub invariant-loop-clock : goal.invariant-loop-clock
invariant-loop-clock l = record { is : l.least ≡ least_of (take l.clock-index l.clocks); range : l.least ≤ last_time }

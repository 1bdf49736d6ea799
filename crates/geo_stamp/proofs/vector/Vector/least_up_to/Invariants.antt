use Rattle.std.proofs.Common.{◌≡◌, ◌≤◌, true}
use Rattle.geo_stamp.specs.Stamps.{last_time}
use Rattle.geo_stamp.specs.Vectors.{entry_of}
use Rattle.geo_stamp.specs.Acks.{least_of_sites}
use Rattle.geo_stamp.proofs.vector.Vector.least_up_to.Given as goal

abbrev pub invariant-loop-at : goal.invariant-loop-at
invariant-loop-at l = record { is : l.least ≡ least_of_sites l.at (λ _. true) (entry_of l.self); range : l.least ≤ last_time }

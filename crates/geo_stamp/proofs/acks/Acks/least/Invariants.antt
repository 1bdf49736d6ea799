use Rattle.std.proofs.Common.{◌≡◌, ◌≤◌, not}
use Rattle.geo_stamp.specs.Stamps.{last_time}
use Rattle.geo_stamp.specs.Retired.{is_in}
use Rattle.geo_stamp.specs.Acks.{least_of_sites, least_of_row}
use Rattle.geo_stamp.proofs.acks.Acks.least.Given as goal

abbrev pub invariant-loop-at : goal.invariant-loop-at
invariant-loop-at l = record {
  is : l.least ≡ least_of_sites l.at (λ t. not (is_in l.self.set t)) (least_of_row l.leave l.self l.own l.vector);
  range : l.least ≤ last_time;
}

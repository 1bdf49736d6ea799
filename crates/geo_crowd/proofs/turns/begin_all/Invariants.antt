use Rattle.std.proofs.Common.{take}
use Rattle.geo_crowd.specs.Crowds.{BeginAll, carried_in}
use Rattle.geo_crowd.specs.Listing.{SameFlags}
use Rattle.geo_crowd.proofs.turns.begin_all.Given as goal

abbrev pub invariant-loop-at : goal.invariant-loop-at
invariant-loop-at g l = record {
  begin : BeginAll (take l.at l.listed) (carried_in l.fn.roster.members) (carried_in l.roster.members);
  flags : SameFlags l.fn.roster.members l.roster.members;
}

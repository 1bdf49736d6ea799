use Rattle.std.proofs.Common.{take}
use Rattle.geo_crowd.specs.Crowds.{GoOnAll, carried_in}
use Rattle.geo_crowd.specs.Listing.{SameFlags}
use Rattle.geo_crowd.proofs.turns.go_on_all.Given as goal

abbrev pub invariant-loop-at : goal.invariant-loop-at
invariant-loop-at g l = record {
  goes : GoOnAll g.B.Backend.answers g.B.Backend.refuses (take l.at l.listed) (carried_in l.fn.roster.members) (carried_in l.roster.members) l.fn.backend l.backend;
  flags : SameFlags l.fn.roster.members l.roster.members;
}

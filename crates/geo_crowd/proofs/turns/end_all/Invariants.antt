use Rattle.std.proofs.Common.{vec_capacity}
use Rattle.geo_crowd.specs.Crowds.{carried_in}
use Rattle.geo_crowd.proofs.Listed.{Keeps}
use Rattle.geo_crowd.proofs.Passing.{Going}
use Rattle.geo_crowd.proofs.turns.end_all.Given as goal

abbrev pub invariant-loop-at : goal.invariant-loop-at
invariant-loop-at g l = record {
  going : Going l.fn.from l.fn.listed.items l.listed.items l.at l.kept l.passed.ended l.passed.faults (carried_in l.fn.roster.members) (carried_in l.roster.members);
  keeps : Keeps l.roster.members l.listed.items l.at l.kept (vec_capacity l.listed);
}

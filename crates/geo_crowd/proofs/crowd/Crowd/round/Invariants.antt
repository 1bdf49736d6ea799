use Rattle.geo_crowd.specs.Crowds.{at, due}
use Rattle.geo_crowd.proofs.Hearing.{Heard}
use Rattle.geo_crowd.proofs.crowd.Crowd.round.Given as goal

abbrev pub invariant-loop-at : goal.invariant-loop-at
invariant-loop-at g l = Heard l.told l.at (due l.fn.self) (due l.self) (at l.fn.self) (at l.self)

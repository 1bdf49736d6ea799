use Rattle.std.proofs.Common.{sym, subst}
use Rattle.geo_crowd.specs.Carrying.{MayGoOn}
use Rattle.geo_crowd.proofs.carried.Carried.turn.Goals as goal

pub returns-clause-turns : goal.returns-clause-turns
returns-clause-turns g c = record {
  mid = c.begin.ensures.mid;
  next = c.begin.new.self;
  far = c.go_on.new.self;
  first = c.begin.ensures.first;
  hears = c.begin.ensures.hears;
  goes = subst (λ b. MayGoOn g.B.Backend.answers g.B.Backend.refuses c.begin.new.self c.go_on.new.self c.args.backend.now b) (sym c.rest.ensures) c.go_on.ensures;
  last = c.end.ensures.last;
}

use Rattle.std.proofs.Common.{[]}
use Rattle.geo_grammar.specs.Places.{Ended}
use Rattle.geo_grammar.proofs.Transitions.{at_end, leads_all}
use Rattle.geo_grammar.proofs.step.step.Goals as goal

pub returns-in-Ended-clause-leads : goal.returns-in-Ended-clause-leads
returns-in-Ended-clause-leads c = rw c.in-Ended.is (leads_all Ended Ended c.args.piece.now [] (at_end c.args.piece.now))

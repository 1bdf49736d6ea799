use Rattle.std.proofs.Common.{arith, subst, refl}
use Rattle.std.specs.List.{All}
use Rattle.std.proofs.lemmas.List.{take_all}
use Rattle.std.proofs.lemmas.List.Elements.{All-more}
use Rattle.geo_audit.specs.Openings.{OpensEmpty}
use Rattle.geo_audit.proofs.Judging.{there_of, first_all}
use Rattle.geo_audit.proofs.opening.later_of.Goals as goal

pub returns-then-not-opens_empty : goal.returns-then-not-opens_empty
returns-then-not-opens_empty c = record {
  place = c.loop-history.history-index;
  history = c.history-item.result;
  there = there_of c.args.histories.now c.loop-history.history-index c.history-item.result (omega arith) c.history-item.is;
  number = refl;
  later = c.if-not-opens_empty.ensures;
  first = λ k h less there. first_all OpensEmpty c.args.histories.now c.loop-history.history-index k h c.loop-history.invariant less there;
}

pub loop-history-preserved : goal.loop-history-preserved
loop-history-preserved c = All-more OpensEmpty c.args.histories.now c.loop-history.history-index _ (omega arith) c.loop-history.invariant (subst OpensEmpty c.history-item.is c.if-not-opens_empty.ensures)

pub returns : goal.returns
returns c = subst (All OpensEmpty) (take_all c.loop-history.history-index c.args.histories.now (omega arith)) c.loop-history.invariant

use Rattle.std.proofs.Common.{ℕ, slice_index, subst, arith}
use Rattle.std.proofs.lemmas.Option.{slice_get_within}
use Rattle.geo_history.specs.declared.history.History.{History}
use Rattle.geo_audit.specs.Merging.{CanGo, Halts}
use Rattle.geo_audit.proofs.Judging.{below_one, there_of, any_default}
use Rattle.geo_audit.proofs.merge.Merge.least.Goals as goal

pub returns-in-Some : goal.returns-in-Some
returns-in-Some c = record {
  history = c.index-histories-at.result;
  there = there_of c.args.histories.now c.loop-at.at c.index-histories-at.result (omega arith) c.index-histories-at.is;
  goes = subst (λ n. CanGo c.args.histories.now c.args.self.now.sent.places.items c.index-histories-at.result n c.in-Some.number) (any_default c.args.self.now.counts.items c.loop-at.at c.index-count.result.now (omega (arith, c.requires.merged.takes.many)) c.index-count.ensures) c.in-Some.ensures;
}

pub loop-at-preserved : goal.loop-at-preserved
loop-at-preserved c =
    below_one (λ (k : ℕ) (h : History). Halts c.args.histories.now c.args.self.now.sent.places.items h (slice_index c.args.self.now.counts.items k)) c.args.histories.now c.loop-at.at c.index-histories-at.result
    (there_of c.args.histories.now c.loop-at.at c.index-histories-at.result (omega arith) c.index-histories-at.is)
    (subst (λ n. Halts c.args.histories.now c.args.self.now.sent.places.items c.index-histories-at.result n) (any_default c.args.self.now.counts.items c.loop-at.at c.index-count.result.now (omega (arith, c.requires.merged.takes.many)) c.index-count.ensures) c.in_default.ensures)
    c.loop-at.invariant

pub returns : goal.returns
returns c = λ k h there. let inside = slice_get_within c.args.histories.now k h there in c.loop-at.invariant k h (omega (arith, inside)) there

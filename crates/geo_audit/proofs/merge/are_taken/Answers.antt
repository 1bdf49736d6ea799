use Rattle.std.proofs.Common.{◌≡◌, ℕ, length, slice_index, arith, sym, ap, ◌∙◌}
use Rattle.std.proofs.lemmas.Option.{slice_get_within}
use Rattle.geo_history.specs.declared.history.History.{History}
use Rattle.geo_audit.proofs.Judging.{below_one, there_of, same_count}
use Rattle.geo_audit.proofs.merge.are_taken.Goals as goal

pub returns-then-counts-at : goal.returns-then-counts-at
returns-then-counts-at c = record {
  place = c.loop-at.at;
  history = c.index-histories-at.result;
  there = there_of c.args.histories.now c.loop-at.at c.index-histories-at.result (omega arith) c.index-histories-at.is;
  more = let many = c.len.ensures ∙ sym (ap (λ (h : History). length h.steps.items) c.index-histories-at.is) in omega (arith, c.if-counts-at.true, many);
}

pub loop-at-preserved : goal.loop-at-preserved
loop-at-preserved c =
    let there = there_of c.args.histories.now c.loop-at.at c.index-histories-at.result (omega arith) c.index-histories-at.is in
    below_one (λ (k : ℕ) (h : History). slice_index c.args.counts.now k ≡ length h.steps.items) c.args.histories.now c.loop-at.at c.index-histories-at.result there
    (same_count _ c.len.result _ (c.requires.within c.loop-at.at c.index-histories-at.result there) (c.len.ensures ∙ sym (ap (λ (h : History). length h.steps.items) c.index-histories-at.is)) c.if-counts-at.false) c.loop-at.invariant

pub returns : goal.returns
returns c = λ k h there. let inside = slice_get_within c.args.histories.now k h there in c.loop-at.invariant k h (omega (arith, inside)) there

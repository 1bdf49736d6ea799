use Rattle.std.proofs.Common.{arith, sym, ap, subst, ◌∙◌, ◌≡◌, ◌++◌, ◌∷◌, false, List, length}
use Rattle.std.specs.Vec.Iter.{into_iter_items}
use Rattle.geo_grammar.specs.declared.item.Item.{Item}
use Rattle.geo_maps.proofs.Showing.{rest_more}
use Rattle.geo_cluster.specs.Standing.{AnswersFor}
use Rattle.geo_cluster.proofs.Feeding.{answers_more, answers_fail}
use Rattle.geo_cluster.proofs.script.cluster.Cluster.answer_all.Goals as goal

pub returns-then-not-branch : goal.returns-then-not-branch
returns-then-not-branch c =
    let i = c.loop-item.invariant in
    let old = c.args.self.now in
    let new = c.answer.new in
    let item = c.in-Some.item in
    let before = c.args.answer.now.items in
    let rest = into_iter_items c.next.new.self in
    let all : c.loop-item.yielded ++ (item ∷ rest) ≡ c.args.items.items = ap (λ (x : List Item). c.loop-item.yielded ++ x) (sym c.in-Some.ensures.steps.0) ∙ i.rest ∙ c.into_iter-item-iterator.ensures.into_iter_gives.0 in
    subst (λ (x : List Item). AnswersFor old c.args.site x before false new.answer.items new.self) all
    (answers_fail c.args.site c.loop-item.yielded rest item c.in_ok-answer.field-0 before c.loop-item.answer.items new.answer.items old c.loop-item.self new.self i.so_far c.in_ok-answer.ensures c.if-not-branch.true)

pub loop-item-preserved : goal.loop-item-preserved
loop-item-preserved c =
    let i = c.loop-item.invariant in
    let steps = c.in-Some.ensures.steps.0 in
    record {
      rest = rest_more c.loop-item.yielded _ _ _ c.in-Some.item i.rest steps;
      left = let was = i.left in let gone = c.in-Some.ensures.steps.1 in let short = ap length steps in omega arith;
      so_far = answers_more c.args.site c.loop-item.yielded c.in-Some.item c.in_ok-answer.field-0 c.args.answer.now.items c.loop-item.answer.items c.answer.new.answer.items c.args.self.now c.loop-item.self c.answer.new.self i.so_far c.in_ok-answer.ensures c.if-not-branch.false;
    }

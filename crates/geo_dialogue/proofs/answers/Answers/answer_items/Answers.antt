use Rattle.std.proofs.Common.{arith, refl, sym, ap, ◌∙◌, ◌≡◌, ◌++◌, ◌∷◌, [], true, false, List, length, cond}
use Rattle.std.specs.Vec.Iter.{into_iter_items}
use Rattle.geo_grammar.specs.declared.item.Item.{Item}
use Rattle.geo_grammar.specs.Quitting.{is_quit, until_quit}
use Rattle.geo_dialogue.specs.Exchanges.{count_after}
use Rattle.geo_maps.proofs.Showing.{rest_more, rest_none}
use Rattle.geo_dialogue.proofs.Lists.{on_err}
use Rattle.geo_dialogue.proofs.Talks.{Runs-append, one_acted, last_acted, next_left, all_acted, quits_in, came_more, has_quit-not, count_after-append, Adds-then, Adds-same}
use Rattle.geo_dialogue.proofs.answers.Answers.answer_items.Goals as goal

pub returns-in_err-answer_item-clause-err : goal.returns-in_err-answer_item-clause-err
returns-in_err-answer_item-clause-err g c =
    let i = c.loop-item.invariant in
    let item = c.in-Some.item in
    let rest = into_iter_items c.next.new.self in
    let all : c.loop-item.yielded ++ (item ∷ rest) ≡ c.args.items.items = ap (λ (x : List Item). c.loop-item.yielded ++ x) (sym c.in-Some.ensures.steps.0) ∙ i.rest ∙ c.into_iter-item-iterator.ensures.into_iter_gives.0 in
    let h = c.in_err-answer_item.ensures.err in
    on_err c.from_residual.result _ (record {
      done = i.done;
      lost = h.exchange;
      left = cond (is_quit item) [] (until_quit rest);
      came = one_acted c.args.items.items c.loop-item.yielded rest item i.done h.exchange all i.goes_on i.came h.came;
      run = Runs-append g.B.Backend.answers i.done (h.exchange ∷ []) _ c.loop-item.backend _ i.run h.run;
      text = h.text ∙ i.adds.text;
      count = h.count ∙ ap (λ n. count_after n (h.exchange ∷ [])) i.adds.count ∙ sym (count_after-append c.args.self.now.calls i.done (h.exchange ∷ []));
    })

pub returns-then-not-branch-clause-ok : goal.returns-then-not-branch-clause-ok
returns-then-not-branch-clause-ok g c =
    let i = c.loop-item.invariant in
    let item = c.in-Some.item in
    let rest = into_iter_items c.next.new.self in
    let all : c.loop-item.yielded ++ (item ∷ rest) ≡ c.args.items.items = ap (λ (x : List Item). c.loop-item.yielded ++ x) (sym c.in-Some.ensures.steps.0) ∙ i.rest ∙ c.into_iter-item-iterator.ensures.into_iter_gives.0 in
    let h = rw c.if-not-branch.true at c.in_ok-answer_item.ensures.ok in
    let more = cond (is_quit item) [] (until_quit rest) in
    record {
      done = i.done;
      left = item ∷ more;
      mid = c.loop-item.backend;
      came = next_left c.args.items.items c.loop-item.yielded rest item i.done all i.goes_on i.came;
      run = i.run;
      adds = Adds-same c.args.self.now c.loop-item.self c.answer_item.new.self i.done i.adds h.adds;
      course_is = record { request = h.request; more = more; next = ap (λ (x : Item). x ∷ more) h.is; refused = h.refused };
    }

pub returns-then-quits-clause-ok : goal.returns-then-quits-clause-ok
returns-then-quits-clause-ok g c =
    let i = c.loop-item.invariant in
    let item = c.in-Some.item in
    let rest = into_iter_items c.next.new.self in
    let all : c.loop-item.yielded ++ (item ∷ rest) ≡ c.args.items.items = ap (λ (x : List Item). c.loop-item.yielded ++ x) (sym c.in-Some.ensures.steps.0) ∙ i.rest ∙ c.into_iter-item-iterator.ensures.into_iter_gives.0 in
    let h = rw c.if-not-branch.false at c.in_ok-answer_item.ensures.ok in
    let quits : is_quit item ≡ true = sym c.is_quit-quits.ensures ∙ c.if-quits.true in
    record {
      done = i.done ++ h.exchange ∷ [];
      left = [];
      mid = c.answer_item.new.backend;
      came = last_acted c.args.items.items c.loop-item.yielded rest item i.done h.exchange all i.goes_on i.came h.came quits;
      run = Runs-append g.B.Backend.answers i.done (h.exchange ∷ []) _ c.loop-item.backend _ i.run h.run;
      adds = Adds-then c.args.self.now c.loop-item.self c.answer_item.new.self i.done (h.exchange ∷ []) i.adds h.adds;
      course_is = (quits_in c.args.items.items c.loop-item.yielded rest item all i.goes_on quits, refl, refl);
    }

pub loop-item-preserved : goal.loop-item-preserved
loop-item-preserved g c =
    let i = c.loop-item.invariant in
    let item = c.in-Some.item in
    let steps = c.in-Some.ensures.steps.0 in
    let h = rw c.if-not-branch.false at c.in_ok-answer_item.ensures.ok in
    let goes : is_quit item ≡ false = sym c.is_quit-quits.ensures ∙ c.if-quits.false in
    record {
      done = i.done ++ h.exchange ∷ [];
      rest = rest_more c.loop-item.yielded _ _ _ item i.rest steps;
      left = let was = i.left in let gone = c.in-Some.ensures.steps.1 in let short = ap length steps in omega arith;
      came = came_more c.loop-item.yielded item i.done h.exchange i.came h.came;
      goes_on = has_quit-not c.loop-item.yielded item i.goes_on goes;
      run = Runs-append g.B.Backend.answers i.done (h.exchange ∷ []) _ c.loop-item.backend _ i.run h.run;
      adds = Adds-then c.args.self.now c.loop-item.self c.answer_item.new.self i.done (h.exchange ∷ []) i.adds h.adds;
    }

pub returns-clause-ok : goal.returns-clause-ok
returns-clause-ok g c =
    let i = c.loop-item.invariant in
    let none : c.loop-item.yielded ≡ c.args.items.items = rest_none _ _ _ i.rest (sym i.left ∙ c.in-None.ensures.steps.0) ∙ c.into_iter-item-iterator.ensures.into_iter_gives.0 in
    record {
      done = i.done;
      left = [];
      mid = c.loop-item.backend;
      came = all_acted c.args.items.items c.loop-item.yielded i.done none i.goes_on i.came;
      run = i.run;
      adds = i.adds;
      course_is = (rw (sym none) i.goes_on, refl, refl);
    }

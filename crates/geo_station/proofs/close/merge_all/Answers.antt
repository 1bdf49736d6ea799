use Rattle.std.proofs.Common.{◌≡◌, ◌+◌, [], ◌∷◌, ◌++◌, sym, ap, length, sum_by, ◌∙◌, subst, arith}
use Rattle.std.specs.List.{All}
use Rattle.std.proofs.lemmas.List.Elements.{All-push}
use Rattle.std.proofs.lemmas.List.Sums.{sum_by-cons}
use Rattle.geo_maps.proofs.Showing.{rest_more, rest_none}
use Rattle.geo_journal.specs.Marks.{Noted, Marked, Agree}
use Rattle.geo_station.specs.Seats.{Seated}
use Rattle.geo_station.proofs.close.merge_all.Goals as goal

pub loop-seat-preserved : goal.loop-seat-preserved
loop-seat-preserved g c =
    let was = c.loop-seat.invariant in
    let steps = c.in-Some.ensures.steps.0 in
    let journal = c.args.journal.now in
    let one : c.seat.inside.account.count ≡ c.in-Some.seat.steps = ap (λ (s : Seated). s.steps) c.seat.view_is in
    let left : sum_by (λ (s : Seated). s.steps) c.loop-seat.seat-iterator.rest.items ≡ c.in-Some.seat.steps + sum_by (λ (s : Seated). s.steps) c.next.new.self.rest.items
    = ap (sum_by (λ (s : Seated). s.steps)) steps ∙ sum_by-cons (λ (s : Seated). s.steps) c.in-Some.seat c.next.new.self.rest.items in
    record {
      parts = omega (arith, was.parts, c.merge.ensures.parts, c.into_share.ensures.parts, ap length steps);
      amount = omega (arith, was.amount, c.merge.ensures.amount, c.into_share.ensures.amount, c.compare.ensures.same.0, one, left);
      same = c.compare.ensures.same.2 ∙ was.same;
      each =
          All-push (λ (s : Seated). Agree journal s.mark) c.loop-seat.yielded c.in-Some.seat was.each
          (subst (λ (a : Noted). Agree a c.in-Some.seat.mark) was.same (subst (λ (s : Seated). Agree c.loop-seat.journal s.mark) c.seat.view_is c.compare.ensures.agree));
      rest = rest_more c.loop-seat.yielded _ _ _ c.in-Some.seat was.rest steps;
      left = let gone = c.in-Some.ensures.steps.1 in let left = was.left in let short = ap length steps in omega arith;
    }

pub returns-clause-agree : goal.returns-clause-agree
returns-clause-agree g c =
    let none : c.loop-seat.yielded ≡ c.args.seats.items = rest_none _ _ _ c.loop-seat.invariant.rest (sym c.loop-seat.invariant.left ∙ c.in-None.ensures.steps.0) ∙ c.into_iter-seat-iterator.ensures.into_iter_gives.0 in
    subst (All (λ (s : Seated). Agree c.args.journal.now s.mark)) none c.loop-seat.invariant.each

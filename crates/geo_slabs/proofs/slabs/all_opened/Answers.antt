use Rattle.std.proofs.Common.{◌≡◌, ℕ, ◌+◌, ◌≤◌, List, [], ◌∷◌, ◌++◌, length, length-append, sym, ap, ◌∙◌, arith}
use Rattle.geo_slabs.specs.Storage.{first_classes}
use Rattle.geo_slabs.proofs.Pages.{rest_reserved}
use Rattle.geo_slabs.proofs.slabs.all_opened.Goals as goal

pub returns-in_err-push-clause-reserved : goal.returns-in_err-push-clause-reserved
returns-in_err-push-clause-reserved c = rest_reserved c.loop-class.spare.items c.pop.new.self.items c.in-Some.page c.in-Some.ensures.items c.loop-class.invariant.2

pub loop-class-preserved : goal.loop-class-preserved
loop-class-preserved c =
    let k = c.loop-class.class in
    let next : k + 1 ≡ Rattle.std.proofs.Common.suc k = omega arith in
    let left = c.loop-class.invariant.1 in
    let popped = ap length c.in-Some.ensures.items ∙ length-append c.pop.new.self.items (c.in-Some.page ∷ []) in (
      c.in_ok-push.ensures.items ∙ (λ i. c.loop-class.invariant.0 i ++ c.in_ok-opened.ensures i ∷ []) ∙ ap (first_classes c.args.pages) (sym next),
      omega (arith, left, popped),
      rest_reserved c.loop-class.spare.items c.pop.new.self.items c.in-Some.page c.in-Some.ensures.items c.loop-class.invariant.2,
    )

pub returns-clause-classes : goal.returns-clause-classes
returns-clause-classes c =
    let below = c.loop-class.auto.class-end in
    let above = c.loop-class-test.false in
    let all : c.loop-class.class ≡ 15 = omega (arith, below, above) in
    c.loop-class.invariant.0 ∙ ap (first_classes c.args.pages) all

use Rattle.std.proofs.Common.{arith, sym}
use Rattle.geo_lru.specs.Lists.{Lists}
use Rattle.geo_lru.proofs.Places.{present-touched_in}
use Rattle.geo_lru.proofs.Calls.{fewer, touched_at-hot, touched_at-warm}
use Rattle.geo_lru.proofs.segments.Segments.hit.Goals as goal

pub invariant_of-self : goal.invariant_of-self
invariant_of-self c =
    let now : Lists = record { hot = c.self.inside.hot; warm = c.self.inside.warm; cold = c.self.inside.cold } in
    rw c.touch.ensures.touched (fewer now _ c.self.invariant (λ k. omega (arith, present-touched_in k c.args.item c.self.inside.hot)))

pub returns-then-touch : goal.returns-then-touch
returns-then-touch c =
    let now : Lists = record { hot = c.self.inside.hot; warm = c.self.inside.warm; cold = c.self.inside.cold } in
    rw (c.touch.ensures.touched, ← c.self.view_is) (sym (touched_at-hot c.args.item now c.self.invariant (rw (← c.touch.ensures.found) c.if-touch.true)))

pub invariant_of-self-then-touch-2 : goal.invariant_of-self-then-touch-2
invariant_of-self-then-touch-2 c =
    let now : Lists = record { hot = c.self.inside.hot; warm = c.self.inside.warm; cold = c.self.inside.cold } in
    rw (c.touch.ensures.touched, c.touch-2.ensures.touched) (fewer now _ c.self.invariant (λ k. omega (arith, present-touched_in k c.args.item c.self.inside.hot, present-touched_in k c.args.item c.self.inside.warm)))

pub returns-then-touch-2 : goal.returns-then-touch-2
returns-then-touch-2 c =
    let now : Lists = record { hot = c.self.inside.hot; warm = c.self.inside.warm; cold = c.self.inside.cold } in
    rw (c.touch.ensures.touched, c.touch-2.ensures.touched, ← c.self.view_is) (sym (touched_at-warm c.args.item now c.self.invariant (rw (← c.touch-2.ensures.found) c.if-touch-2.true)))

pub invariant_of-self-2 : goal.invariant_of-self-2
invariant_of-self-2 c =
    let now : Lists = record { hot = c.self.inside.hot; warm = c.self.inside.warm; cold = c.self.inside.cold } in
    rw (c.touch.ensures.touched, c.touch-2.ensures.touched, c.touch-3.ensures.touched) (fewer now _ c.self.invariant (λ k. omega (arith, present-touched_in k c.args.item c.self.inside.hot, present-touched_in k c.args.item c.self.inside.warm, present-touched_in k c.args.item c.self.inside.cold)))

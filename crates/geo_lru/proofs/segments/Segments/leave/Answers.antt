use Rattle.std.proofs.Common.{arith, sym}
use Rattle.geo_lru.specs.Lists.{Lists}
use Rattle.geo_lru.proofs.Places.{present-without}
use Rattle.geo_lru.proofs.Calls.{fewer, left-from-cold, left-from-warm}
use Rattle.geo_lru.proofs.segments.Segments.leave.Goals as goal

pub invariant_of-self : goal.invariant_of-self
invariant_of-self c =
    let now : Lists = record { hot = c.self.inside.hot; warm = c.self.inside.warm; cold = c.self.inside.cold } in
    rw c.remove.ensures.removed (fewer now _ c.self.invariant (λ k. omega (arith, present-without k c.args.item c.self.inside.cold)))

pub returns-then-remove : goal.returns-then-remove
returns-then-remove c =
    let now : Lists = record { hot = c.self.inside.hot; warm = c.self.inside.warm; cold = c.self.inside.cold } in
    rw (c.remove.ensures.removed, ← c.self.view_is) (sym (left-from-cold c.args.item now c.self.invariant (rw (← c.remove.ensures.found) c.if-remove.true)))

pub invariant_of-self-then-remove-2 : goal.invariant_of-self-then-remove-2
invariant_of-self-then-remove-2 c =
    let now : Lists = record { hot = c.self.inside.hot; warm = c.self.inside.warm; cold = c.self.inside.cold } in
    rw (c.remove.ensures.removed, c.remove-2.ensures.removed) (fewer now _ c.self.invariant (λ k. omega (arith, present-without k c.args.item c.self.inside.cold, present-without k c.args.item c.self.inside.warm)))

pub returns-then-remove-2 : goal.returns-then-remove-2
returns-then-remove-2 c =
    let now : Lists = record { hot = c.self.inside.hot; warm = c.self.inside.warm; cold = c.self.inside.cold } in
    rw (c.remove.ensures.removed, c.remove-2.ensures.removed, ← c.self.view_is) (sym (left-from-warm c.args.item now c.self.invariant (rw (← c.remove-2.ensures.found) c.if-remove-2.true)))

pub invariant_of-self-2 : goal.invariant_of-self-2
invariant_of-self-2 c =
    let now : Lists = record { hot = c.self.inside.hot; warm = c.self.inside.warm; cold = c.self.inside.cold } in
    rw (c.remove.ensures.removed, c.remove-2.ensures.removed, c.remove-3.ensures.removed) (fewer now _ c.self.invariant (λ k. omega (arith, present-without k c.args.item c.self.inside.hot, present-without k c.args.item c.self.inside.warm, present-without k c.args.item c.self.inside.cold)))

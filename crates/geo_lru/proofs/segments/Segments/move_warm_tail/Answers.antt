use Rattle.std.proofs.Common.{◌≤◌, arith, sym, refl}
use Rattle.geo_lru.specs.Lists.{Lists, present, moved, without}
use Rattle.geo_lru.proofs.Places.{present-tail, present-taken, present-cons}
use Rattle.geo_lru.proofs.Calls.{fewer, brought_forward-tail}
use Rattle.geo_lru.proofs.segments.Segments.move_warm_tail.Goals as goal

pub invariant_of-self : goal.invariant_of-self
invariant_of-self c =
    let now : Lists = record { hot = c.self.inside.hot; warm = c.self.inside.warm; cold = c.self.inside.cold } in
    let here : 1 ≤ present c.in-Some.item c.self.inside.warm = present-tail c.self.inside.warm (c.in-Some.item, c.in-Some.access) (sym c.in-Some.ensures) in
    rw (c.move_to_head.ensures, brought_forward-tail c.self.inside.warm c.in-Some.item c.in-Some.access (sym c.in-Some.ensures) (omega (arith, c.self.invariant.once c.in-Some.item)))
    (fewer now _ c.self.invariant (λ k. omega (arith, present-taken k c.in-Some.item c.self.inside.warm here, present-cons k c.in-Some.item (moved c.in-Some.access) (without c.in-Some.item c.self.inside.warm))))

pub returns-then-access-clause-moved : goal.returns-then-access-clause-moved
returns-then-access-clause-moved c =
    rw (c.move_to_head.ensures, brought_forward-tail c.self.inside.warm c.in-Some.item c.in-Some.access (sym c.in-Some.ensures) (omega (arith, c.self.invariant.once c.in-Some.item)), ← c.self.view_is, ← c.in-Some.ensures, c.if-access.true) refl

pub cool-requires : goal.cool-requires
cool-requires c = omega (arith, present-tail c.self.inside.warm (c.in-Some.item, c.in-Some.access) (sym c.in-Some.ensures), c.self.invariant.once c.in-Some.item)

pub invariant_of-self-in-Continue-1 : goal.invariant_of-self-in-Continue-1
invariant_of-self-in-Continue-1 c =
    let now : Lists = record { hot = c.self.inside.hot; warm = c.self.inside.warm; cold = c.self.inside.cold } in
    let here : 1 ≤ present c.in-Some.item c.self.inside.warm = present-tail c.self.inside.warm (c.in-Some.item, c.in-Some.access) (sym c.in-Some.ensures) in
    rw (c.in_ok-cool.ensures.from, c.in_ok-cool.ensures.to)
    (fewer now _ c.self.invariant (λ k. omega (arith, present-taken k c.in-Some.item c.self.inside.warm here, present-cons k c.in-Some.item (moved c.in-Some.access) c.self.inside.cold)))

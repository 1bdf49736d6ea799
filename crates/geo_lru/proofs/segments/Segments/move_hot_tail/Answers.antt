use Rattle.std.proofs.Common.{◌≤◌, arith, sym}
use Rattle.geo_lru.specs.Lists.{Lists, present, moved}
use Rattle.geo_lru.proofs.Places.{present-tail, present-taken, present-cons}
use Rattle.geo_lru.proofs.Calls.{fewer}
use Rattle.geo_lru.proofs.segments.Segments.move_hot_tail.Goals as goal

pub transfer-requires : goal.transfer-requires
transfer-requires c = omega (arith, present-tail c.self.inside.hot (c.in-Some.item, c.in-Some.access) (sym c.in-Some.ensures), c.self.invariant.once c.in-Some.item)

pub invariant_of-self : goal.invariant_of-self
invariant_of-self c =
    let now : Lists = record { hot = c.self.inside.hot; warm = c.self.inside.warm; cold = c.self.inside.cold } in
    let here : 1 ≤ present c.in-Some.item c.self.inside.hot = present-tail c.self.inside.hot (c.in-Some.item, c.in-Some.access) (sym c.in-Some.ensures) in
    rw (c.in_ok-transfer.ensures.from, c.in_ok-transfer.ensures.to)
    (fewer now _ c.self.invariant (λ k. omega (arith, present-taken k c.in-Some.item c.self.inside.hot here, present-cons k c.in-Some.item (moved c.in-Some.access) c.self.inside.warm)))

pub cool-requires : goal.cool-requires
cool-requires c = omega (arith, present-tail c.self.inside.hot (c.in-Some.item, c.in-Some.access) (sym c.in-Some.ensures), c.self.invariant.once c.in-Some.item)

pub invariant_of-self-in-Continue-branch-2 : goal.invariant_of-self-in-Continue-branch-2
invariant_of-self-in-Continue-branch-2 c =
    let now : Lists = record { hot = c.self.inside.hot; warm = c.self.inside.warm; cold = c.self.inside.cold } in
    let here : 1 ≤ present c.in-Some.item c.self.inside.hot = present-tail c.self.inside.hot (c.in-Some.item, c.in-Some.access) (sym c.in-Some.ensures) in
    rw (c.in_ok-cool.ensures.from, c.in_ok-cool.ensures.to)
    (fewer now _ c.self.invariant (λ k. omega (arith, present-taken k c.in-Some.item c.self.inside.hot here, present-cons k c.in-Some.item (moved c.in-Some.access) c.self.inside.cold)))

use Rattle.std.proofs.Common.{◌≤◌, arith, sym}
use Rattle.geo_lru.specs.Lists.{Lists, present, moved}
use Rattle.geo_lru.proofs.Places.{present-active, present-taken, present-cons}
use Rattle.geo_lru.proofs.Calls.{fewer}
use Rattle.geo_lru.proofs.segments.Segments.move_cold_active.Goals as goal

pub push_head-requires : goal.push_head-requires
push_head-requires c = omega (arith, present-active c.self.inside.cold (c.in-Some.item, c.in-Some.access) (sym c.in-Some.ensures.found), c.self.invariant.once c.in-Some.item)

pub take_active-requires-clause-once : goal.take_active-requires-clause-once
take_active-requires-clause-once c = rw c.last_active.ensures.unchanged (omega (arith, c.self.invariant.once c.in-Some.item))

pub invariant_of-self-2 : goal.invariant_of-self-2
invariant_of-self-2 c =
    let now : Lists = record { hot = c.self.inside.hot; warm = c.self.inside.warm; cold = c.self.inside.cold } in
    let here : 1 ≤ present c.in-Some.item c.self.inside.cold = present-active c.self.inside.cold (c.in-Some.item, c.in-Some.access) (sym c.in-Some.ensures.found) in
    rw (c.in_ok-push_head.ensures.pushed, c.take_active.ensures, c.last_active.ensures.unchanged, c.moved.ensures)
    (fewer now _ c.self.invariant (λ k. omega (arith, present-taken k c.in-Some.item c.self.inside.cold here, present-cons k c.in-Some.item (moved c.in-Some.access) c.self.inside.warm)))

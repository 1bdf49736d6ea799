use Rattle.std.proofs.Common.{◌≤◌, ◌∷◌, ◌-◌, length, arith, refl, ap}
use Rattle.geo_lru.specs.declared.cold.Placed.{Placed}
use Rattle.geo_lru.proofs.Placing.{put-absent, placed-pushed, placed-last}
use Rattle.geo_lru.proofs.cold.ColdList.push_idle.Goals as goal

pub invariant_of-self-then-place : goal.invariant_of-self-then-place
invariant_of-self-then-place c =
    let fits : length c.self.inside.entries.entries ≤ c.self.inside.entries.cap - 1 = omega (arith, c.self.invariant.tallied.unbounded, c.len-len.ensures.fits, c.len-len.ensures.len) in
    let placed : Placed = record { access = c.args.access; place = c.self.inside.next } in
    rw (c.in_ok-put.ensures.entries, put-absent c.self.inside.entries c.args.item placed (rw c.self.view_is c.requires.absent) fits)
    (placed-pushed c.self.inside.entries.entries c.self.inside.entries.cap c.self.inside.next c.self.inside.active c.self.inside.whole c.self.inside.noted.items c.self.inside.index
    c.self.invariant c.args.item placed refl c.requires.idle (omega (arith, c.if-place.true)))

pub invariant_of-self-else-place : goal.invariant_of-self-else-place
invariant_of-self-else-place c =
    let fits : length c.self.inside.entries.entries ≤ c.self.inside.entries.cap - 1 = omega (arith, c.self.invariant.tallied.unbounded, c.len-len.ensures.fits, c.len-len.ensures.len) in
    let placed : Placed = record { access = c.args.access; place = c.self.inside.next } in
    rw (c.in_ok-put.ensures.entries, put-absent c.self.inside.entries c.args.item placed (rw c.self.view_is c.requires.absent) fits)
    (placed-last c.self.inside.entries.entries c.self.inside.entries.cap c.self.inside.next c.self.inside.active c.self.inside.whole c.self.inside.noted.items c.self.inside.index
    c.self.invariant c.args.item placed c.requires.idle)

pub returns-then-place-clause-pushed : goal.returns-then-place-clause-pushed
returns-then-place-clause-pushed c =
    let fits : length c.self.inside.entries.entries ≤ c.self.inside.entries.cap - 1 = omega (arith, c.self.invariant.tallied.unbounded, c.len-len.ensures.fits, c.len-len.ensures.len) in
    rw (c.in_ok-put.ensures.entries, put-absent c.self.inside.entries c.args.item (record { access = c.args.access; place = c.self.inside.next }) (rw c.self.view_is c.requires.absent) fits)
    (ap (λ l. (c.args.item, c.args.access) ∷ l) c.self.view_is)

pub returns-else-place-clause-pushed : goal.returns-else-place-clause-pushed
returns-else-place-clause-pushed c =
    let fits : length c.self.inside.entries.entries ≤ c.self.inside.entries.cap - 1 = omega (arith, c.self.invariant.tallied.unbounded, c.len-len.ensures.fits, c.len-len.ensures.len) in
    rw (c.in_ok-put.ensures.entries, put-absent c.self.inside.entries c.args.item (record { access = c.args.access; place = c.self.inside.next }) (rw c.self.view_is c.requires.absent) fits)
    (ap (λ l. (c.args.item, c.args.access) ∷ l) c.self.view_is)

use Rattle.std.proofs.Common.{is_some, sym, ap, arith}
use Rattle.geo_lru.proofs.Placing.{seen-found, seen-missing, seen-remove, removed-absent, placed-gone}
use Rattle.geo_lru.proofs.Tallies.{active-without, one, none}
use Rattle.geo_lru.proofs.cold.ColdList.remove.Goals as goal

pub invariant_of-self : goal.invariant_of-self
invariant_of-self c = rw (c.pop.ensures.entries, removed-absent c.args.item c.self.inside.entries.entries (sym c.in_default.ensures.value)) c.self.invariant

pub returns-in_default-clause-found : goal.returns-in_default-clause-found
returns-in_default-clause-found c = rw (← c.self.view_is) (sym (ap is_some (seen-missing c.args.item c.self.inside.entries.entries (sym c.in_default.ensures.value))))

pub returns-in_default-clause-removed : goal.returns-in_default-clause-removed
returns-in_default-clause-removed c = rw (c.pop.ensures.entries, ← c.self.view_is) (seen-remove c.args.item c.self.inside.entries.entries)

pub overflow_sub-self : goal.overflow_sub-self
overflow_sub-self c = omega (
  arith,
  c.self.invariant.tallied.tally,
  active-without c.args.item _ c.in-Some.placed.access (seen-found c.args.item c.self.inside.entries.entries c.in-Some.placed (sym c.in-Some.ensures.value)),
  one c.in-Some.placed.access.active c.if-placed.true,
)

pub invariant_of-self-then-placed : goal.invariant_of-self-then-placed
invariant_of-self-then-placed c = rw c.pop.ensures.entries
    (placed-gone c.self.inside.entries.entries c.self.inside.entries.cap c.self.inside.next c.self.inside.active c.self.inside.whole c.self.inside.noted.items c.self.inside.index
    c.self.invariant c.args.item c.in-Some.placed _ (sym c.in-Some.ensures.value)
    (omega (
      arith,
      c.self.invariant.tallied.tally,
      active-without c.args.item _ c.in-Some.placed.access (seen-found c.args.item c.self.inside.entries.entries c.in-Some.placed (sym c.in-Some.ensures.value)),
      one c.in-Some.placed.access.active c.if-placed.true,
    )))

pub invariant_of-self-else-placed : goal.invariant_of-self-else-placed
invariant_of-self-else-placed c = rw c.pop.ensures.entries
    (placed-gone c.self.inside.entries.entries c.self.inside.entries.cap c.self.inside.next c.self.inside.active c.self.inside.whole c.self.inside.noted.items c.self.inside.index
    c.self.invariant c.args.item c.in-Some.placed _ (sym c.in-Some.ensures.value) (omega (arith, none c.in-Some.placed.access.active c.if-placed.false)))

pub returns-then-placed-clause-found : goal.returns-then-placed-clause-found
returns-then-placed-clause-found c = rw (← c.self.view_is) (sym (ap is_some (seen-found c.args.item c.self.inside.entries.entries c.in-Some.placed (sym c.in-Some.ensures.value))))

pub returns-then-placed-clause-removed : goal.returns-then-placed-clause-removed
returns-then-placed-clause-removed c = rw (c.pop.ensures.entries, ← c.self.view_is) (seen-remove c.args.item c.self.inside.entries.entries)

pub returns-else-placed-clause-found : goal.returns-else-placed-clause-found
returns-else-placed-clause-found c = rw (← c.self.view_is) (sym (ap is_some (seen-found c.args.item c.self.inside.entries.entries c.in-Some.placed (sym c.in-Some.ensures.value))))

pub returns-else-placed-clause-removed : goal.returns-else-placed-clause-removed
returns-else-placed-clause-removed c = rw (c.pop.ensures.entries, ← c.self.view_is) (seen-remove c.args.item c.self.inside.entries.entries)

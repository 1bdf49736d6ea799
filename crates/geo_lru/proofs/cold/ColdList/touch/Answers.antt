use Rattle.std.proofs.Common.{is_some, sym, ap, ◌∙◌, refl}
use Rattle.geo_lru.specs.declared.access.Access.{Access}
use Rattle.geo_lru.proofs.Placing.{seen-found, seen-missing, seen-touched, seen-untouched, placed-active, placed-kept}
use Rattle.geo_lru.proofs.cold.ColdList.touch.Goals as goal

pub returns-in_default-clause-found : goal.returns-in_default-clause-found
returns-in_default-clause-found c = rw (← c.self.view_is) (sym (ap is_some (seen-missing c.args.item c.self.inside.entries.entries (sym c.in_default.ensures.value))))

pub returns-in_default-clause-touched : goal.returns-in_default-clause-touched
returns-in_default-clause-touched c = rw (← c.self.view_is) (seen-untouched c.args.item c.self.inside.entries.entries (sym c.in_default.ensures.value))

pub invariant_of-self-then-wakes : goal.invariant_of-self-then-wakes
invariant_of-self-then-wakes c =
    placed-active c.self.inside.entries.entries c.self.inside.entries.cap c.self.inside.next c.self.inside.active c.self.inside.whole c.self.inside.noted.items c.self.inside.index
    c.self.invariant c.args.item c.in-Some.placed.now (record { access = c.touched-placed.result; place = c.in-Some.placed.now.place }) c.note-self-inside.result c.note-self-inside.new.noted.items
    (sym c.in-Some.ensures.value) refl (c.if-wakes.ensures.idle refl) (ap (λ (a : Access). a.active) c.touched-placed.ensures ∙ c.if-wakes.ensures.active refl)
    (λ t. c.still_whole-whole.ensures (c.note-self-inside.ensures.others t))
    c.note-self-inside.ensures.noted

pub invariant_of-self-else-wakes : goal.invariant_of-self-else-wakes
invariant_of-self-else-wakes c =
    placed-kept c.self.inside.entries.entries c.self.inside.entries.cap c.self.inside.next c.self.inside.active c.self.inside.whole c.self.inside.noted.items c.self.inside.index
    c.self.invariant c.args.item c.in-Some.placed.now (record { access = c.touched-placed.result; place = c.in-Some.placed.now.place })
    (sym c.in-Some.ensures.value) refl (ap (λ (a : Access). a.active) c.touched-placed.ensures ∙ c.if-wakes.ensures.kept refl)

pub returns-then-wakes-clause-found : goal.returns-then-wakes-clause-found
returns-then-wakes-clause-found c = rw (← c.self.view_is) (sym (ap is_some (seen-found c.args.item c.self.inside.entries.entries c.in-Some.placed.now (sym c.in-Some.ensures.value))))

pub returns-then-wakes-clause-touched : goal.returns-then-wakes-clause-touched
returns-then-wakes-clause-touched c = rw (← c.self.view_is)
    (seen-touched c.args.item c.self.inside.entries.entries c.in-Some.placed.now (record { access = c.touched-placed.result; place = c.in-Some.placed.now.place }) (sym c.in-Some.ensures.value) c.touched-placed.ensures)

pub returns-else-wakes-clause-found : goal.returns-else-wakes-clause-found
returns-else-wakes-clause-found c = rw (← c.self.view_is) (sym (ap is_some (seen-found c.args.item c.self.inside.entries.entries c.in-Some.placed.now (sym c.in-Some.ensures.value))))

pub returns-else-wakes-clause-touched : goal.returns-else-wakes-clause-touched
returns-else-wakes-clause-touched c = rw (← c.self.view_is)
    (seen-touched c.args.item c.self.inside.entries.entries c.in-Some.placed.now (record { access = c.touched-placed.result; place = c.in-Some.placed.now.place }) (sym c.in-Some.ensures.value) c.touched-placed.ensures)

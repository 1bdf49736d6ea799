use Rattle.std.proofs.Common.{◌≡◌, ℕ, Bool, cond, Option, List, sym, subst, subst₂}
use Rattle.std.specs.Prelude.{IfOk, IfErr}
use Rattle.geo_world.specs.declared.event.Event.{Event}
use Rattle.geo_world.specs.declared.event.Trace.{Trace}
use Rattle.geo_world.specs.Schedule.{Known, carries_out, evicts, flushed, happens, fills, Lawful}
use Rattle.geo_plain.specs.declared.known.PlainError.TheVariants.{ClockEnded}
use Rattle.geo_plain.specs.Plain.{Meets}
use Rattle.geo_plain.proofs.Happening.{carried_kept, carried_ended, reaped_kept, reaped_ended}
use Rattle.geo_plain.proofs.known.Known.happens.Goals as goal

pub returns-in_ok-take-in-Take-Taken-clause-kept : goal.returns-in_ok-take-in-Take-Taken-clause-kept
returns-in_ok-take-in-Take-Taken-clause-kept c = λ w meets.
    subst₂ (λ (event : Event) (trace : Trace). Meets c.take.new.self.sites.items c.take.new.self.sent.items (happens w event trace)) (sym c.in-Take-Taken.is-0) (sym c.in-Take-Taken.is-1) (c.in_ok-take-in-Take-Taken.ensures.kept w meets)

pub returns-then-not-is_done-clause-kept : goal.returns-then-not-is_done-clause-kept
returns-then-not-is_done-clause-kept c = λ w meets.
    let k = c.in-Command-Replied in
    let new = c.flush_due.new.self in
    let v = flushed w k.site k.now in
    subst₂ (λ (event : Event) (trace : Trace). Meets new.sites.items new.sent.items (happens w event trace)) (sym k.is-0) (sym k.is-1)
    (subst (λ (b : Bool). Meets new.sites.items new.sent.items (cond b (carries_out v k.site k.now k.request k.victim) v)) c.if-not-is_done.ensures (c.in_ok-flush_due-in-Command-Replied.ensures.kept w meets))

pub returns-else-not-is_done-clause-kept : goal.returns-else-not-is_done-clause-kept
returns-else-not-is_done-clause-kept c =
    let k = c.in-Command-Replied in
    let old = c.args.self.now in
    let mid = c.flush_due.new.self in
    let new = c.carry_out.new.self in
    subst₂ (λ (event : Event) (trace : Trace). IfOk c.carry_out.result (λ _. (w : Known) → Meets old.sites.items old.sent.items w → Meets new.sites.items new.sent.items (happens w event trace))) (sym k.is-0) (sym k.is-1)
    (carried_kept old mid k.site k.now c.in_ok-flush_due-in-Command-Replied.ensures.kept k.request k.reply k.victim (sym c.if-not-is_done.ensures) new c.carry_out.result
    (subst (λ (v : Option (List ℕ)). IfOk c.carry_out.result (λ _. (w : Known) → Meets mid.sites.items mid.sent.items w → Meets new.sites.items new.sent.items (carries_out w k.site k.now k.request v))) c.as_ref.ensures.value c.carry_out.ensures.kept))

pub returns-else-not-is_done-clause-ended : goal.returns-else-not-is_done-clause-ended
returns-else-not-is_done-clause-ended c =
    let k = c.in-Command-Replied in
    let old = c.args.self.now in
    subst₂ (λ (event : Event) (trace : Trace). IfErr c.carry_out.result (λ e. e ≡ ClockEnded → (w : Known) → Meets old.sites.items old.sent.items w → Lawful w event trace → ⊥)) (sym k.is-0) (sym k.is-1)
    (carried_ended old c.flush_due.new.self k.site k.now c.in_ok-flush_due-in-Command-Replied.ensures.kept k.request k.reply k.victim (sym c.if-not-is_done.ensures) c.carry_out.result c.carry_out.ensures.ended)

pub returns-in_ok-flush_due-in-Reap-Reaped-clause-kept : goal.returns-in_ok-flush_due-in-Reap-Reaped-clause-kept
returns-in_ok-flush_due-in-Reap-Reaped-clause-kept c =
    let k = c.in-Reap-Reaped in
    let old = c.args.self.now in
    let new = c.reap.new.self in
    subst₂ (λ (event : Event) (trace : Trace). IfOk c.reap.result (λ _. (w : Known) → Meets old.sites.items old.sent.items w → Meets new.sites.items new.sent.items (happens w event trace))) (sym k.is-0) (sym k.is-1)
    (reaped_kept old c.flush_due-in-Reap-Reaped.new.self k.site k.now c.in_ok-flush_due-in-Reap-Reaped.ensures.kept new k.key k.field-0-1 c.reap.result c.reap.ensures.adds)

pub returns-in_ok-flush_due-in-Reap-Reaped-clause-ended : goal.returns-in_ok-flush_due-in-Reap-Reaped-clause-ended
returns-in_ok-flush_due-in-Reap-Reaped-clause-ended c =
    let k = c.in-Reap-Reaped in
    let old = c.args.self.now in
    subst₂ (λ (event : Event) (trace : Trace). IfErr c.reap.result (λ e. e ≡ ClockEnded → (w : Known) → Meets old.sites.items old.sent.items w → Lawful w event trace → ⊥)) (sym k.is-0) (sym k.is-1)
    (reaped_ended old c.flush_due-in-Reap-Reaped.new.self k.site k.now c.in_ok-flush_due-in-Reap-Reaped.ensures.kept c.reap.new.self k.key k.field-0-1 c.reap.result c.reap.ensures.adds)

pub returns-in_ok-evict-in-Evict-Evicted-clause-kept : goal.returns-in_ok-evict-in-Evict-Evicted-clause-kept
returns-in_ok-evict-in-Evict-Evicted-clause-kept c = λ w meets.
    let k = c.in-Evict-Evicted in
    let new = c.evict.new.self in
    subst₂ (λ (event : Event) (trace : Trace). Meets new.sites.items new.sent.items (happens w event trace)) (sym k.is-0) (sym k.is-1)
    (subst (λ (b : Bool). Meets new.sites.items new.sent.items (cond b (evicts w k.site k.key) w)) (sym c.if-done.true) (c.in_ok-evict-in-Evict-Evicted.ensures.kept w meets))

pub returns-in_ok-fill-in-Fill-Filled-clause-kept : goal.returns-in_ok-fill-in-Fill-Filled-clause-kept
returns-in_ok-fill-in-Fill-Filled-clause-kept c = λ w meets.
    let k = c.in-Fill-Filled in
    let new = c.fill.new.self in
    subst₂ (λ (event : Event) (trace : Trace). Meets new.sites.items new.sent.items (happens w event trace)) (sym k.is-0) (sym k.is-1)
    (subst (λ (b : Bool). Meets new.sites.items new.sent.items (cond b (fills w k.site k.key k.bytes) w)) (c.if-is_done.ensures) (c.in_ok-fill-in-Fill-Filled.ensures.kept w meets))

pub returns-in-Retire-Retired-clause-kept : goal.returns-in-Retire-Retired-clause-kept
returns-in-Retire-Retired-clause-kept c = λ w meets.
    let k = c.in-Retire-Retired in
    let new = c.retire.new.self in
    subst₂ (λ (event : Event) (trace : Trace). Meets new.sites.items new.sent.items (happens w event trace)) (sym k.is-0) (sym k.is-1) (c.retire.ensures.kept w meets)

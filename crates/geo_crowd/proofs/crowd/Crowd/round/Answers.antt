use Rattle.std.proofs.Common.{false, get_or, ◌+◌, ◌<◌, ◌≤◌, ◌≡◌, List, ℕ, ◌++◌, ◌∙◌, ap, length, subst, sym, arith}
use Rattle.std.proofs.lemmas.List.{length-append}
use Rattle.geo_crowd.specs.Crowds.{AllHeard, Passes, at, due, sums_of}
use Rattle.geo_crowd.specs.declared.polling.Ready.{Ready}
use Rattle.geo_crowd.proofs.Hearing.{heard_none, heard_step, heard_all, same_item}
use Rattle.geo_crowd.proofs.Rounding.{rounds_alone, rounds_both}
use Rattle.geo_crowd.proofs.Passing.{passes_from}
use Rattle.geo_crowd.proofs.crowd.Crowd.round.Goals as goal

pub loop-at-init : goal.loop-at-init
loop-at-init g c = heard_none _ _ _

pub loop-at-preserved : goal.loop-at-preserved
loop-at-preserved g c =
    let items = c.ready-told.result.now in
    let none : Ready = record { number = 0; readable = false; writable = false; ending = false } in
    let item = get_or items c.loop-at.at none in
    let lt : c.loop-at.at < length items = omega (arith, c.loop-at-test.true) in
    heard_step items c.loop-at.at _ _ _ _ _ _ item c.loop-at.invariant lt (same_item items c.loop-at.at none item lt) c.is_ready.ensures.stand c.is_ready.ensures.listed c.is_ready.ensures.due

-- those that were due are among those that are listed
pub pass_behind-before-requires-clause-place : goal.pass_behind-before-requires-clause-place
pass_behind-before-requires-clause-place g c =
    let h = c.loop-at.invariant in
    let all : length (due c.loop-at.self) ≡ length (due c.args.self.now) + length h.more = ap (λ (l : List ℕ). length l) h.due ∙ length-append (due c.args.self.now) h.more in
    omega (arith, all, c.len-count.ensures)

-- nobody was due
pub returns-then-count-eq0-clause-rounds : goal.returns-then-count-eq0-clause-rounds
returns-then-count-eq0-clause-rounds g c =
    let h = c.loop-at.invariant in
    let items = c.ready-told.result.now in
    let all : length items ≤ c.loop-at.at = omega (arith, c.loop-at-test.false, c.loop-at.auto.at-end) in
    let old = at c.args.self.now in
    let heard = subst (λ (l : List Ready). AllHeard l old (due c.loop-at.self)) c.ready-told.ensures (heard_all items c.loop-at.at (due c.args.self.now) (due c.loop-at.self) old (at c.loop-at.self) h all) in
    rounds_alone g.B.Backend.answers g.B.Backend.refuses (g.P.Polling.told c.wait.new.self) (due c.args.self.now) h.more (due c.loop-at.self) (due c.pass_behind-before.new.self) c.len-count.result c.pass_behind-before.result
    old (at c.loop-at.self) (at c.pass_behind-before.new.self) c.args.backend.now c.pass_behind-before.new.backend (omega (arith, c.len-count.ensures)) h.due heard h.stand c.pass_behind-before.ensures.front c.pass_behind-before.ensures.passes
    (omega (arith, c.if-count-eq0.true))

pub returns-clause-rounds : goal.returns-clause-rounds
returns-clause-rounds g c =
    let h = c.loop-at.invariant in
    let items = c.ready-told.result.now in
    let all : length items ≤ c.loop-at.at = omega (arith, c.loop-at-test.false, c.loop-at.auto.at-end) in
    let old = at c.args.self.now in
    let heard = subst (λ (l : List Ready). AllHeard l old (due c.loop-at.self)) c.ready-told.ensures (heard_all items c.loop-at.at (due c.args.self.now) (due c.loop-at.self) old (at c.loop-at.self) h all) in
    rounds_both g.B.Backend.answers g.B.Backend.refuses (g.P.Polling.told c.wait.new.self) (due c.args.self.now) h.more (due c.loop-at.self) (due c.pass_behind-before.new.self) c.len-count.result c.pass_behind-before.result
    old (at c.loop-at.self) (at c.pass_behind-before.new.self) c.args.backend.now c.pass_behind-before.new.backend (omega (arith, c.len-count.ensures)) h.due heard h.stand c.pass_behind-before.ensures.front c.pass_behind-before.ensures.passes
    (sums_of c.pass_next.new.self c.pass_next.result) (at c.pass_next.new.self) c.pass_next.new.backend (omega (arith, c.if-count-eq0.false)) c.pass_next.ensures.next

use Rattle.std.proofs.Common.{◌<◌, subst, sym}
use Rattle.geo_audit.specs.Playing.{Happens, ComesOf}
use Rattle.geo_world.proofs.Worlds.{read_is}
use Rattle.geo_audit.proofs.Playing.{match_bool}
use Rattle.geo_audit.proofs.Telling.{answers_other, makes_other, tells_other, answers_so}
use Rattle.geo_audit.proofs.play.Play.answers.Goals as goal

pub returns-then-not-is_told : goal.returns-then-not-is_told
returns-then-not-is_told c =
    let comes : ComesOf c.args.self.now c.carry_out.new.self c.args.happening c.in-Some.trace = subst (Happens c.args.self.now c.carry_out.new.self c.args.happening) c.in-Some.is c.in_ok-trace.ensures in
    answers_other c.args.self.now c.carry_out.new.self c.args.at c.requires.event.0 c.args.step.now c.args.happening c.requires.event.1 c.in-Some.trace comes.leads comes.said c.if-not-is_told.ensures

pub returns-then-not-ends_with : goal.returns-then-not-ends_with
returns-then-not-ends_with c =
    let comes : ComesOf c.args.self.now c.carry_out.new.self c.args.happening c.in-Some.trace = subst (Happens c.args.self.now c.carry_out.new.self c.args.happening) c.in-Some.is c.in_ok-trace.ensures in
    makes_other c.args.self.now c.carry_out.new.self c.args.at c.requires.event.0 c.args.step.now c.args.happening c.requires.event.1 c.in-Some.trace comes.leads comes.said c.if-not-is_told.ensures c.if-not-ends_with.ensures

pub returns : goal.returns
returns c =
    let old = c.args.self.now in
    let new = c.carry_out.new.self in
    let comes : ComesOf old new c.args.happening c.in-Some.trace = subst (Happens old new c.args.happening) c.in-Some.is c.in_ok-trace.ensures in
    let was = read_is old.world.sites.items c.args.at c.index.result.now c.requires.there c.index.ensures in
    let now = read_is new.world.sites.items c.args.at c.index-2.result.now (subst (λ n. c.args.at < n) (sym comes.leads.as_many) c.requires.there) c.index-2.ensures in
    match_bool c.tells.result (c.tells.ensures _ _ c.seen_at-seen.ensures)
    (answers_so old new c.args.at c.requires.event.0 c.args.step.now c.args.happening c.requires.event.1 c.in-Some.trace comes.leads comes.said c.if-not-is_told.ensures c.if-not-ends_with.ensures c.index.result.now c.index-2.result.now was now)
    (tells_other old new c.args.at c.requires.event.0 c.args.step.now c.args.happening c.requires.event.1 c.in-Some.trace comes.leads comes.said c.if-not-is_told.ensures c.if-not-ends_with.ensures c.index.result.now c.index-2.result.now was now)

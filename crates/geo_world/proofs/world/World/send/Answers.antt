use Rattle.std.proofs.Common.{◌≡◌, ◌+◌, ◌-◌, Bool, List, [], ◌∷◌, ◌++◌, length, arith, refl, sym, ap, ◌∙◌, subst}
use Rattle.geo_delta.specs.declared.parcel.Parcel.{Parcel}
use Rattle.geo_world.specs.Agreement.{Agrees, about}
use Rattle.geo_site.specs.Tables.{brought_at}
use Rattle.geo_world.specs.Tables.{Keep}
use Rattle.geo_world.proofs.Worlds.{there_is, read_is}
use Rattle.geo_world.proofs.Alone.{stays_alone}
use Rattle.geo_stamp.specs.Retired.{is_in}
use Rattle.geo_world.proofs.Exchanging.{sent_reaches, carries_sent, agrees_sent, send_refused}
use Rattle.geo_world.proofs.Keeping.{keep_sent}
use Rattle.geo_world.proofs.world.World.send.Goals as goal

pub returns-in_ok-push-in-Ok-clause-lawful : goal.returns-in_ok-push-in-Ok-clause-lawful
returns-in_ok-push-in-Ok-clause-lawful c = λ w agrees.
    let n = length c.args.self.now.sites.items in
    let there = there_is n c.args.site c.requires.there in
    let lo = there.first in
    let hi = there.last in
    let got = read_is c.args.self.now.sites.items (c.args.site - 1) c.index-at.result.now (omega arith) c.index-at.ensures in
    let st = agrees.each (c.args.site - 1) c.args.site c.index-at.result.now (omega arith) got in
    (λ e. c.in-Ok.ensures.does.0.2 (e ∙ sym st.own), ap (λ (set : List Bool). is_in set c.args.to) (sym st.set) ∙ c.in-Ok.ensures.does.1)

pub returns-in_ok-push-in-Ok-clause-kept : goal.returns-in_ok-push-in-Ok-clause-kept
returns-in_ok-push-in-Ok-clause-kept c = λ w agrees.
    let n = length c.args.self.now.sites.items in
    let there = there_is n c.args.site c.requires.there in
    let lo = there.first in
    let hi = there.last in
    let got = read_is c.args.self.now.sites.items (c.args.site - 1) c.index-at.result.now (omega arith) c.index-at.ensures in
    let place : c.args.site ≡ c.args.site - 1 + 1 = omega (arith, lo) in
    let st = agrees.each (c.args.site - 1) c.args.site c.index-at.result.now place got in
    let to_there = there_is n c.args.to c.requires.to_there in
    let first = to_there.first in
    let last = to_there.last in
    subst (λ (ps : List Parcel). Agrees c.args.self.now.sites.items ps (record { at = w.at; held = w.held; counts = w.counts; waiting = w.waiting; limits = w.limits; sets = w.sets; sites = w.sites; sent = w.sent ++ record { from = c.args.site; to = c.args.to; set = w.sets c.args.site; ops = w.at c.args.site } ∷ [] })) (sym c.in_ok-push-in-Ok.ensures.items)
    (agrees_sent _ _ w agrees (c.args.site - 1) c.args.site c.args.to c.index-at.result.now place got hi first last c.in-Ok.parcel c.in-Ok.ensures.does.2
    (carries_sent n c.args.site c.args.to w.at c.index-at.result.now c.in-Ok.parcel (about w c.args.site) st (sent_reaches _ _ w agrees (c.args.site - 1) c.args.site c.args.to c.index-at.result.now place got hi first last c.in-Ok.ensures.does.1) lo hi first last c.in-Ok.ensures.does.0.2 c.in-Ok.ensures.does.2))

pub returns-in-Err-clause-lawful : goal.returns-in-Err-clause-lawful
returns-in-Err-clause-lawful c = λ w agrees.
    let n = length c.args.self.now.sites.items in
    let there = there_is n c.args.site c.requires.there in
    let to_there = there_is n c.args.to c.requires.to_there in
    let lo = there.first in
    let hi = there.last in
    let got = read_is c.args.self.now.sites.items (c.args.site - 1) c.index-at.result.now (omega arith) c.index-at.ensures in
    let st = agrees.each (c.args.site - 1) c.args.site c.index-at.result.now (omega arith) got in
    send_refused n c.args.site c.args.to c.index-at.result.now (about w c.args.site) st to_there.first to_there.last c.in-Err.why c.in-Err.ensures.does

pub returns-in_ok-push-in-Ok-clause-tables : goal.returns-in_ok-push-in-Ok-clause-tables
returns-in_ok-push-in-Ok-clause-tables c = λ w all agrees keep.
    let n = length c.args.self.now.sites.items in
    let there = there_is n c.args.site c.requires.there in
    let lo = there.first in
    let hi = there.last in
    let got = read_is c.args.self.now.sites.items (c.args.site - 1) c.index-at.result.now (omega arith) c.index-at.ensures in
    let own = (agrees.each (c.args.site - 1) c.args.site c.index-at.result.now (omega arith) got).own in (
      tt,
      subst (λ (ps : List Parcel). Keep c.args.self.now.sites.items ps (record { at = all.at; sent = all.sent ++ brought_at c.args.site c.args.to (all.at c.args.site) ∷ [] })) (sym c.in_ok-push-in-Ok.ensures.items)
          (keep_sent _ _ all (c.args.site - 1) c.args.site c.args.to c.index-at.result.now c.in-Ok.parcel keep (omega arith) got own c.in-Ok.ensures.does.2),
    )

pub returns-in_ok-push-in-Ok-clause-alone : goal.returns-in_ok-push-in-Ok-clause-alone
returns-in_ok-push-in-Ok-clause-alone c =
    let n = length c.args.self.now.sites.items in
    let there = there_is n c.args.site c.requires.there in
    let lo = there.first in
    let hi = there.last in
    let got = read_is c.args.self.now.sites.items (c.args.site - 1) c.index-at.result.now (omega arith) c.index-at.ensures in
    stays_alone c.args.self.now.sites.items c.args.site c.index-at.result.now lo got _ _ refl refl

pub returns-in-Err-clause-alone : goal.returns-in-Err-clause-alone
returns-in-Err-clause-alone c =
    let n = length c.args.self.now.sites.items in
    let there = there_is n c.args.site c.requires.there in
    let lo = there.first in
    let hi = there.last in
    let got = read_is c.args.self.now.sites.items (c.args.site - 1) c.index-at.result.now (omega arith) c.index-at.ensures in
    stays_alone c.args.self.now.sites.items c.args.site c.index-at.result.now lo got _ _ refl refl

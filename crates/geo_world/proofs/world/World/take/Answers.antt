use Rattle.std.proofs.Common.{◌-◌, length, arith, refl, sym, ◌∙◌, ap, Some}
use Rattle.geo_world.proofs.Alone.{does_alone}
use Rattle.geo_world.proofs.Worlds.{there_is, read_is}
use Rattle.geo_world.proofs.Exchanging.{taken_lawful, taken_agrees, refused_lawful, refused_agrees}
use Rattle.geo_world.proofs.Keeping.{keep_taken, keep_still}
use Rattle.geo_world.proofs.world.World.take.Goals as goal

pub returns-in-Ok-clause-lawful : goal.returns-in-Ok-clause-lawful
returns-in-Ok-clause-lawful c = λ w agrees.
    let n = length c.args.self.now.sites.items in
    let there = there_is n c.args.site c.requires.there in
    let lo = there.first in
    let hi = there.last in
    let got = read_is c.args.self.now.sites.items (c.args.site - 1) c.index_mut-at.result.now (omega arith) c.index_mut-at.ensures.value in
    let parcel = read_is c.args.self.now.parcels.items c.args.parcel c.index-sent.result.now c.requires.sent c.index-sent.ensures ∙ ap Some (sym c.in_ok-copy.ensures) in
    taken_lawful _ _ w agrees (c.args.site - 1) c.args.site c.args.parcel (omega arith) hi c.index_mut-at.result.now c.take.new.self got c.in_ok-copy.copy parcel c.in-Ok.ensures.rests c.in-Ok.ensures.remains c.in-Ok.ensures.does.0

pub returns-in-Ok-clause-kept : goal.returns-in-Ok-clause-kept
returns-in-Ok-clause-kept c = λ w agrees.
    let n = length c.args.self.now.sites.items in
    let there = there_is n c.args.site c.requires.there in
    let lo = there.first in
    let hi = there.last in
    let got = read_is c.args.self.now.sites.items (c.args.site - 1) c.index_mut-at.result.now (omega arith) c.index_mut-at.ensures.value in
    let parcel = read_is c.args.self.now.parcels.items c.args.parcel c.index-sent.result.now c.requires.sent c.index-sent.ensures ∙ ap Some (sym c.in_ok-copy.ensures) in
    taken_agrees _ _ w agrees (c.args.site - 1) c.args.site c.args.parcel (omega arith) hi c.index_mut-at.result.now c.take.new.self got c.in_ok-copy.copy parcel c.in-Ok.ensures.rests c.in-Ok.ensures.remains c.in-Ok.ensures.does.0 c.in-Ok.ensures.does.1 c.in-Ok.ensures.does.4

pub returns-in-Err-clause-lawful : goal.returns-in-Err-clause-lawful
returns-in-Err-clause-lawful c = λ w agrees.
    let n = length c.args.self.now.sites.items in
    let there = there_is n c.args.site c.requires.there in
    let lo = there.first in
    let hi = there.last in
    let got = read_is c.args.self.now.sites.items (c.args.site - 1) c.index_mut-at.result.now (omega arith) c.index_mut-at.ensures.value in
    let parcel = read_is c.args.self.now.parcels.items c.args.parcel c.index-sent.result.now c.requires.sent c.index-sent.ensures ∙ ap Some (sym c.in_ok-copy.ensures) in
    refused_lawful _ _ w agrees (c.args.site - 1) c.args.site c.args.parcel (omega arith) hi c.index_mut-at.result.now c.take.new.self got c.in_ok-copy.copy parcel c.in-Err.ensures.rests c.in-Err.ensures.remains c.in-Err.refused.why c.in-Err.ensures.does.0

pub returns-in-Err-clause-kept : goal.returns-in-Err-clause-kept
returns-in-Err-clause-kept c = λ w agrees.
    let n = length c.args.self.now.sites.items in
    let there = there_is n c.args.site c.requires.there in
    let lo = there.first in
    let hi = there.last in
    let got = read_is c.args.self.now.sites.items (c.args.site - 1) c.index_mut-at.result.now (omega arith) c.index_mut-at.ensures.value in
    let parcel = read_is c.args.self.now.parcels.items c.args.parcel c.index-sent.result.now c.requires.sent c.index-sent.ensures ∙ ap Some (sym c.in_ok-copy.ensures) in
    refused_agrees _ _ w agrees (c.args.site - 1) c.args.site c.args.parcel (omega arith) hi c.index_mut-at.result.now c.take.new.self got c.in_ok-copy.copy parcel c.in-Err.ensures.rests c.in-Err.ensures.remains c.in-Err.refused.why c.in-Err.ensures.does.2 c.in-Err.ensures.does.3

pub returns-in-Ok-clause-alone : goal.returns-in-Ok-clause-alone
returns-in-Ok-clause-alone c =
    let n = length c.args.self.now.sites.items in
    let there = there_is n c.args.site c.requires.there in
    let lo = there.first in
    let hi = there.last in
    let got = read_is c.args.self.now.sites.items (c.args.site - 1) c.index_mut-at.result.now (omega arith) c.index_mut-at.ensures.value in
    does_alone c.args.self.now.sites.items c.args.site c.index_mut-at.result.now lo got _ _ refl c.take.new.self (record { parcel = _; taken = _; does = c.in-Ok.ensures.does })

pub returns-in-Err-clause-alone : goal.returns-in-Err-clause-alone
returns-in-Err-clause-alone c =
    let n = length c.args.self.now.sites.items in
    let there = there_is n c.args.site c.requires.there in
    let lo = there.first in
    let hi = there.last in
    let got = read_is c.args.self.now.sites.items (c.args.site - 1) c.index_mut-at.result.now (omega arith) c.index_mut-at.ensures.value in
    does_alone c.args.self.now.sites.items c.args.site c.index_mut-at.result.now lo got _ _ refl c.take.new.self (record { parcel = _; refused = _; does = c.in-Err.ensures.does })

pub returns-in-Ok-clause-tables : goal.returns-in-Ok-clause-tables
returns-in-Ok-clause-tables c = λ w all agrees keep.
    let n = length c.args.self.now.sites.items in
    let there = there_is n c.args.site c.requires.there in
    let lo = there.first in
    let hi = there.last in
    let got = read_is c.args.self.now.sites.items (c.args.site - 1) c.index_mut-at.result.now (omega arith) c.index_mut-at.ensures.value in
    let parcel = read_is c.args.self.now.parcels.items c.args.parcel c.index-sent.result.now c.requires.sent c.index-sent.ensures ∙ ap Some (sym c.in_ok-copy.ensures) in
    let own = (agrees.each (c.args.site - 1) c.args.site c.index_mut-at.result.now (omega arith) got).own in
    (tt, keep_taken _ _ all keep (c.args.site - 1) c.args.site (omega arith) c.index_mut-at.result.now c.take.new.self got c.args.parcel c.in_ok-copy.copy parcel own c.in-Ok.ensures.does.1 c.in-Ok.ensures.does.4)

pub returns-in-Err-clause-tables : goal.returns-in-Err-clause-tables
returns-in-Err-clause-tables c = λ w all agrees keep.
    let n = length c.args.self.now.sites.items in
    let there = there_is n c.args.site c.requires.there in
    let lo = there.first in
    let hi = there.last in
    let got = read_is c.args.self.now.sites.items (c.args.site - 1) c.index_mut-at.result.now (omega arith) c.index_mut-at.ensures.value in
    (tt, keep_still _ _ all keep (c.args.site - 1) c.args.site (omega arith) c.index_mut-at.result.now c.take.new.self got c.in-Err.ensures.does.3 c.in-Err.ensures.does.2)

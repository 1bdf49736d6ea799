use Rattle.std.proofs.Common.{◌-◌, length, arith, refl}
use Rattle.geo_world.proofs.Alone.{does_alone}
use Rattle.geo_world.proofs.Worlds.{there_is, read_is}
use Rattle.geo_world.proofs.Answering.{reap_lawful, reap_agrees, reap_refused_lawful, reap_refused_agrees}
use Rattle.geo_world.proofs.Keeping.{keep_reaped, keep_not_reaped}
use Rattle.geo_world.proofs.world.World.reap.Goals as goal

pub returns-in-Ok-clause-lawful : goal.returns-in-Ok-clause-lawful
returns-in-Ok-clause-lawful c = λ w agrees.
    let n = length c.args.self.now.sites.items in
    let there = there_is n c.args.site c.requires.there in
    let lo = there.first in
    let hi = there.last in
    let got = read_is c.args.self.now.sites.items (c.args.site - 1) c.index_mut-at.result.now (omega arith) c.index_mut-at.ensures.value in
    reap_lawful _ _ w agrees (c.args.site - 1) c.args.site c.args.now (omega arith) hi c.index_mut-at.result.now c.reap.new.self got c.args.key.now c.in-Ok.done c.in-Ok.ensures.does

pub returns-in-Ok-clause-kept : goal.returns-in-Ok-clause-kept
returns-in-Ok-clause-kept c = λ w agrees.
    let n = length c.args.self.now.sites.items in
    let there = there_is n c.args.site c.requires.there in
    let lo = there.first in
    let hi = there.last in
    let got = read_is c.args.self.now.sites.items (c.args.site - 1) c.index_mut-at.result.now (omega arith) c.index_mut-at.ensures.value in
    reap_agrees _ _ w agrees (c.args.site - 1) c.args.site c.args.now (omega arith) hi c.index_mut-at.result.now c.reap.new.self got c.args.key.now c.in-Ok.done c.in-Ok.ensures.does

pub returns-in-Err-clause-lawful : goal.returns-in-Err-clause-lawful
returns-in-Err-clause-lawful c = λ w agrees.
    let n = length c.args.self.now.sites.items in
    let there = there_is n c.args.site c.requires.there in
    let lo = there.first in
    let hi = there.last in
    let got = read_is c.args.self.now.sites.items (c.args.site - 1) c.index_mut-at.result.now (omega arith) c.index_mut-at.ensures.value in
    reap_refused_lawful _ _ w agrees (c.args.site - 1) c.args.site c.args.now (omega arith) hi c.index_mut-at.result.now c.reap.new.self got c.args.key.now c.in-Err.why c.in-Err.ensures.does

pub returns-in-Err-clause-kept : goal.returns-in-Err-clause-kept
returns-in-Err-clause-kept c = λ w agrees.
    let n = length c.args.self.now.sites.items in
    let there = there_is n c.args.site c.requires.there in
    let lo = there.first in
    let hi = there.last in
    let got = read_is c.args.self.now.sites.items (c.args.site - 1) c.index_mut-at.result.now (omega arith) c.index_mut-at.ensures.value in
    reap_refused_agrees _ _ w agrees (c.args.site - 1) c.args.site c.args.now (omega arith) hi c.index_mut-at.result.now c.reap.new.self got c.args.key.now c.in-Err.why c.in-Err.ensures.does

pub returns-in-Ok-clause-alone : goal.returns-in-Ok-clause-alone
returns-in-Ok-clause-alone c =
    let n = length c.args.self.now.sites.items in
    let there = there_is n c.args.site c.requires.there in
    let lo = there.first in
    let hi = there.last in
    let got = read_is c.args.self.now.sites.items (c.args.site - 1) c.index_mut-at.result.now (omega arith) c.index_mut-at.ensures.value in
    does_alone c.args.self.now.sites.items c.args.site c.index_mut-at.result.now lo got _ _ refl c.reap.new.self c.in-Ok.ensures.does

pub returns-in-Err-clause-alone : goal.returns-in-Err-clause-alone
returns-in-Err-clause-alone c =
    let n = length c.args.self.now.sites.items in
    let there = there_is n c.args.site c.requires.there in
    let lo = there.first in
    let hi = there.last in
    let got = read_is c.args.self.now.sites.items (c.args.site - 1) c.index_mut-at.result.now (omega arith) c.index_mut-at.ensures.value in
    does_alone c.args.self.now.sites.items c.args.site c.index_mut-at.result.now lo got _ _ refl c.reap.new.self c.in-Err.ensures.does

pub returns-in-Ok-clause-tables : goal.returns-in-Ok-clause-tables
returns-in-Ok-clause-tables c = λ w all agrees keep.
    let n = length c.args.self.now.sites.items in
    let there = there_is n c.args.site c.requires.there in
    let lo = there.first in
    let hi = there.last in
    let got = read_is c.args.self.now.sites.items (c.args.site - 1) c.index_mut-at.result.now (omega arith) c.index_mut-at.ensures.value in
    (tt, keep_reaped _ _ w agrees all keep (c.args.site - 1) c.args.site c.args.now (omega arith) hi c.index_mut-at.result.now c.reap.new.self got c.args.key.now c.in-Ok.done c.in-Ok.ensures.does)

pub returns-in-Err-clause-tables : goal.returns-in-Err-clause-tables
returns-in-Err-clause-tables c = λ w all agrees keep.
    let n = length c.args.self.now.sites.items in
    let there = there_is n c.args.site c.requires.there in
    let lo = there.first in
    let hi = there.last in
    let got = read_is c.args.self.now.sites.items (c.args.site - 1) c.index_mut-at.result.now (omega arith) c.index_mut-at.ensures.value in
    (tt, keep_not_reaped _ _ w agrees all keep (c.args.site - 1) c.args.site c.args.now (omega arith) hi c.index_mut-at.result.now c.reap.new.self got c.args.key.now c.in-Err.why c.in-Err.ensures.does)

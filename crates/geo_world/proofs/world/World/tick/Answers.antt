use Rattle.std.proofs.Common.{◌-◌, length, arith, refl}
use Rattle.geo_world.proofs.Alone.{does_alone}
use Rattle.geo_world.proofs.Worlds.{there_is, read_is}
use Rattle.geo_world.proofs.Answering.{tick_lawful, tick_agrees}
use Rattle.geo_world.proofs.Keeping.{keep_tick}
use Rattle.geo_world.proofs.world.World.tick.Goals as goal

pub returns-clause-lawful : goal.returns-clause-lawful
returns-clause-lawful c = λ w agrees.
    let n = length c.args.self.now.sites.items in
    let there = there_is n c.args.site c.requires.there in
    let lo = there.first in
    let hi = there.last in
    let got = read_is c.args.self.now.sites.items (c.args.site - 1) c.index_mut-at.result.now (omega arith) c.index_mut-at.ensures.value in
    tick_lawful _ _ w agrees (c.args.site - 1) c.args.site c.args.now (omega arith) hi c.index_mut-at.result.now c.tick.new.self got c.tick.result c.tick.ensures.does

pub returns-clause-kept : goal.returns-clause-kept
returns-clause-kept c = λ w agrees.
    let n = length c.args.self.now.sites.items in
    let there = there_is n c.args.site c.requires.there in
    let lo = there.first in
    let hi = there.last in
    let got = read_is c.args.self.now.sites.items (c.args.site - 1) c.index_mut-at.result.now (omega arith) c.index_mut-at.ensures.value in
    tick_agrees _ _ w agrees (c.args.site - 1) c.args.site c.args.now (omega arith) hi c.index_mut-at.result.now c.tick.new.self got c.tick.result c.tick.ensures.does

pub returns-clause-alone : goal.returns-clause-alone
returns-clause-alone c =
    let n = length c.args.self.now.sites.items in
    let there = there_is n c.args.site c.requires.there in
    let lo = there.first in
    let hi = there.last in
    let got = read_is c.args.self.now.sites.items (c.args.site - 1) c.index_mut-at.result.now (omega arith) c.index_mut-at.ensures.value in
    does_alone c.args.self.now.sites.items c.args.site c.index_mut-at.result.now lo got _ _ refl c.tick.new.self c.tick.ensures.does

pub returns-clause-tables : goal.returns-clause-tables
returns-clause-tables c = λ w all agrees keep.
    let n = length c.args.self.now.sites.items in
    let there = there_is n c.args.site c.requires.there in
    let lo = there.first in
    let hi = there.last in
    let got = read_is c.args.self.now.sites.items (c.args.site - 1) c.index_mut-at.result.now (omega arith) c.index_mut-at.ensures.value in
    (tt, keep_tick _ _ w agrees all keep (c.args.site - 1) c.args.site c.args.now (omega arith) hi c.index_mut-at.result.now c.tick.new.self got c.tick.result c.tick.ensures.does)

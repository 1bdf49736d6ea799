use Rattle.std.proofs.Common.{◌-◌, length, arith, refl}
use Rattle.geo_world.proofs.Alone.{does_alone}
use Rattle.geo_world.proofs.Worlds.{there_is, read_is}
use Rattle.geo_world.proofs.Exchanging.{retired_lawful, retired_agrees, retire_refused_lawful, retire_refused_agrees}
use Rattle.geo_world.proofs.Keeping.{keep_retired, keep_not_retired}
use Rattle.geo_world.proofs.world.World.retire.Goals as goal

pub returns-in-Ok-clause-lawful : goal.returns-in-Ok-clause-lawful
returns-in-Ok-clause-lawful c = λ w agrees.
    let n = length c.args.self.now.sites.items in
    let there = there_is n c.args.site c.requires.there in
    let lo = there.first in
    let hi = there.last in
    let got = read_is c.args.self.now.sites.items (c.args.site - 1) c.index_mut-at.result.now (omega arith) c.index_mut-at.ensures.value in
    retired_lawful _ _ w agrees (c.args.site - 1) c.args.site c.args.other (omega arith) hi c.index_mut-at.result.now c.retire.new.self got c.in-Ok.ensures.rests c.in-Ok.ensures.remains c.in-Ok.fresh c.in-Ok.ensures.does

pub returns-in-Ok-clause-kept : goal.returns-in-Ok-clause-kept
returns-in-Ok-clause-kept c = λ w agrees.
    let n = length c.args.self.now.sites.items in
    let there = there_is n c.args.site c.requires.there in
    let lo = there.first in
    let hi = there.last in
    let got = read_is c.args.self.now.sites.items (c.args.site - 1) c.index_mut-at.result.now (omega arith) c.index_mut-at.ensures.value in
    retired_agrees _ _ w agrees (c.args.site - 1) c.args.site c.args.other (omega arith) hi c.index_mut-at.result.now c.retire.new.self got c.in-Ok.ensures.rests c.in-Ok.ensures.remains c.in-Ok.fresh c.in-Ok.ensures.does

pub returns-in-Err-clause-lawful : goal.returns-in-Err-clause-lawful
returns-in-Err-clause-lawful c = λ w agrees.
    let n = length c.args.self.now.sites.items in
    let there = there_is n c.args.site c.requires.there in
    let lo = there.first in
    let hi = there.last in
    let got = read_is c.args.self.now.sites.items (c.args.site - 1) c.index_mut-at.result.now (omega arith) c.index_mut-at.ensures.value in
    let other = there_is n c.args.other c.requires.other_there in
    retire_refused_lawful _ _ w agrees (c.args.site - 1) c.args.site c.args.other (omega arith) hi c.index_mut-at.result.now c.retire.new.self got c.in-Err.ensures.rests c.in-Err.ensures.remains other.first other.last c.in-Err.why c.in-Err.ensures.does

pub returns-in-Err-clause-kept : goal.returns-in-Err-clause-kept
returns-in-Err-clause-kept c = λ w agrees.
    let n = length c.args.self.now.sites.items in
    let there = there_is n c.args.site c.requires.there in
    let lo = there.first in
    let hi = there.last in
    let got = read_is c.args.self.now.sites.items (c.args.site - 1) c.index_mut-at.result.now (omega arith) c.index_mut-at.ensures.value in
    retire_refused_agrees _ _ w agrees (c.args.site - 1) c.args.site c.args.other (omega arith) hi c.index_mut-at.result.now c.retire.new.self got c.in-Err.ensures.rests c.in-Err.ensures.remains c.in-Err.why c.in-Err.ensures.does

pub returns-in-Ok-clause-alone : goal.returns-in-Ok-clause-alone
returns-in-Ok-clause-alone c =
    let n = length c.args.self.now.sites.items in
    let there = there_is n c.args.site c.requires.there in
    let lo = there.first in
    let hi = there.last in
    let got = read_is c.args.self.now.sites.items (c.args.site - 1) c.index_mut-at.result.now (omega arith) c.index_mut-at.ensures.value in
    does_alone c.args.self.now.sites.items c.args.site c.index_mut-at.result.now lo got _ _ refl c.retire.new.self c.in-Ok.ensures.does

pub returns-in-Err-clause-alone : goal.returns-in-Err-clause-alone
returns-in-Err-clause-alone c =
    let n = length c.args.self.now.sites.items in
    let there = there_is n c.args.site c.requires.there in
    let lo = there.first in
    let hi = there.last in
    let got = read_is c.args.self.now.sites.items (c.args.site - 1) c.index_mut-at.result.now (omega arith) c.index_mut-at.ensures.value in
    does_alone c.args.self.now.sites.items c.args.site c.index_mut-at.result.now lo got _ _ refl c.retire.new.self c.in-Err.ensures.does

pub returns-in-Ok-clause-tables : goal.returns-in-Ok-clause-tables
returns-in-Ok-clause-tables c = λ w all agrees keep.
    let n = length c.args.self.now.sites.items in
    let there = there_is n c.args.site c.requires.there in
    let lo = there.first in
    let hi = there.last in
    let got = read_is c.args.self.now.sites.items (c.args.site - 1) c.index_mut-at.result.now (omega arith) c.index_mut-at.ensures.value in
    let own = (agrees.each (c.args.site - 1) c.args.site c.index_mut-at.result.now (omega arith) got).own in
    (tt, keep_retired _ _ all keep (c.args.site - 1) c.args.site (omega arith) c.index_mut-at.result.now c.retire.new.self got c.args.other c.in-Ok.fresh own c.in-Ok.ensures.does)

pub returns-in-Err-clause-tables : goal.returns-in-Err-clause-tables
returns-in-Err-clause-tables c = λ w all agrees keep.
    let n = length c.args.self.now.sites.items in
    let there = there_is n c.args.site c.requires.there in
    let lo = there.first in
    let hi = there.last in
    let got = read_is c.args.self.now.sites.items (c.args.site - 1) c.index_mut-at.result.now (omega arith) c.index_mut-at.ensures.value in
    (tt, keep_not_retired _ _ all keep (c.args.site - 1) c.args.site (omega arith) c.index_mut-at.result.now c.retire.new.self got c.args.other c.in-Err.why c.in-Err.ensures.does)

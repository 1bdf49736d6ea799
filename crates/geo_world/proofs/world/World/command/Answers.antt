use Rattle.std.proofs.Common.{◌-◌, None, length, refl, arith}
use Rattle.geo_requests.specs.declared.reply.Reply.TheVariants.{OutOfMemory}
use Rattle.geo_world.proofs.Alone.{does_alone, commands}
use Rattle.geo_world.proofs.Worlds.{there_is, read_is}
use Rattle.geo_world.proofs.Answering.{command_lawful, command_agrees}
use Rattle.geo_world.proofs.Keeping.{keep_command, owes_command}
use Rattle.geo_world.proofs.world.World.command.Goals as goal

pub returns-in-Ok-clause-lawful : goal.returns-in-Ok-clause-lawful
returns-in-Ok-clause-lawful c = λ w agrees.
    let n = length c.args.self.now.sites.items in
    let there = there_is n c.args.site c.requires.there in
    let lo = there.first in
    let hi = there.last in
    let got = read_is c.args.self.now.sites.items (c.args.site - 1) c.index_mut-at.result.now (omega arith) c.index_mut-at.ensures.value in
    let e = c.in-Ok.ensures.does in
    command_lawful _ _ w agrees (c.args.site - 1) c.args.site c.args.now (omega arith) hi c.index_mut-at.result.now c.act_full.new.self got c.args.request.now c.in-Ok.acted.reply c.in-Ok.acted.victim e.does e.told.victim

pub returns-in-Ok-clause-kept : goal.returns-in-Ok-clause-kept
returns-in-Ok-clause-kept c = λ w agrees.
    let n = length c.args.self.now.sites.items in
    let there = there_is n c.args.site c.requires.there in
    let lo = there.first in
    let hi = there.last in
    let got = read_is c.args.self.now.sites.items (c.args.site - 1) c.index_mut-at.result.now (omega arith) c.index_mut-at.ensures.value in
    let e = c.in-Ok.ensures.does in
    command_agrees _ _ w agrees (c.args.site - 1) c.args.site c.args.now (omega arith) hi c.index_mut-at.result.now c.act_full.new.self got c.args.request.now c.in-Ok.acted.reply c.in-Ok.acted.victim e.does e.told.victim

pub returns-in-Err-clause-lawful : goal.returns-in-Err-clause-lawful
returns-in-Err-clause-lawful c = λ w agrees.
    let n = length c.args.self.now.sites.items in
    let there = there_is n c.args.site c.requires.there in
    let lo = there.first in
    let hi = there.last in
    let got = read_is c.args.self.now.sites.items (c.args.site - 1) c.index_mut-at.result.now (omega arith) c.index_mut-at.ensures.value in
    command_lawful _ _ w agrees (c.args.site - 1) c.args.site c.args.now (omega arith) hi c.index_mut-at.result.now c.act_full.new.self got c.args.request.now OutOfMemory None c.in-Err.ensures.does refl

pub returns-in-Err-clause-kept : goal.returns-in-Err-clause-kept
returns-in-Err-clause-kept c = λ w agrees.
    let n = length c.args.self.now.sites.items in
    let there = there_is n c.args.site c.requires.there in
    let lo = there.first in
    let hi = there.last in
    let got = read_is c.args.self.now.sites.items (c.args.site - 1) c.index_mut-at.result.now (omega arith) c.index_mut-at.ensures.value in
    command_agrees _ _ w agrees (c.args.site - 1) c.args.site c.args.now (omega arith) hi c.index_mut-at.result.now c.act_full.new.self got c.args.request.now OutOfMemory None c.in-Err.ensures.does refl

pub returns-in-Ok-clause-alone : goal.returns-in-Ok-clause-alone
returns-in-Ok-clause-alone c =
    let n = length c.args.self.now.sites.items in
    let there = there_is n c.args.site c.requires.there in
    let lo = there.first in
    let hi = there.last in
    let got = read_is c.args.self.now.sites.items (c.args.site - 1) c.index_mut-at.result.now (omega arith) c.index_mut-at.ensures.value in
    does_alone c.args.self.now.sites.items c.args.site c.index_mut-at.result.now lo got _ _ refl c.act_full.new.self (commands _ _ c.args.now c.args.request.now c.in-Ok.acted.reply c.in-Ok.acted.victim c.in-Ok.ensures.does.does c.in-Ok.ensures.does.told.victim)

pub returns-in-Err-clause-alone : goal.returns-in-Err-clause-alone
returns-in-Err-clause-alone c =
    let n = length c.args.self.now.sites.items in
    let there = there_is n c.args.site c.requires.there in
    let lo = there.first in
    let hi = there.last in
    let got = read_is c.args.self.now.sites.items (c.args.site - 1) c.index_mut-at.result.now (omega arith) c.index_mut-at.ensures.value in
    does_alone c.args.self.now.sites.items c.args.site c.index_mut-at.result.now lo got _ _ refl c.act_full.new.self (commands _ _ c.args.now c.args.request.now OutOfMemory None c.in-Err.ensures.does refl)

pub returns-in-Ok-clause-tables : goal.returns-in-Ok-clause-tables
returns-in-Ok-clause-tables c = λ w all agrees keep.
    let n = length c.args.self.now.sites.items in
    let there = there_is n c.args.site c.requires.there in
    let lo = there.first in
    let hi = there.last in
    let got = read_is c.args.self.now.sites.items (c.args.site - 1) c.index_mut-at.result.now (omega arith) c.index_mut-at.ensures.value in
    (owes_command _ _ w agrees all keep (c.args.site - 1) c.args.site c.args.now (omega arith) hi c.index_mut-at.result.now c.act_full.new.self got c.args.request.now c.in-Ok.acted.reply c.in-Ok.ensures.does.does, keep_command _ _ w agrees all keep (c.args.site - 1) c.args.site c.args.now (omega arith) hi c.index_mut-at.result.now c.act_full.new.self got c.args.request.now c.in-Ok.acted.reply c.in-Ok.acted.victim c.in-Ok.ensures.does.does)

pub returns-in-Err-clause-tables : goal.returns-in-Err-clause-tables
returns-in-Err-clause-tables c = λ w all agrees keep.
    let n = length c.args.self.now.sites.items in
    let there = there_is n c.args.site c.requires.there in
    let lo = there.first in
    let hi = there.last in
    let got = read_is c.args.self.now.sites.items (c.args.site - 1) c.index_mut-at.result.now (omega arith) c.index_mut-at.ensures.value in
    (owes_command _ _ w agrees all keep (c.args.site - 1) c.args.site c.args.now (omega arith) hi c.index_mut-at.result.now c.act_full.new.self got c.args.request.now OutOfMemory c.in-Err.ensures.does, keep_command _ _ w agrees all keep (c.args.site - 1) c.args.site c.args.now (omega arith) hi c.index_mut-at.result.now c.act_full.new.self got c.args.request.now OutOfMemory None c.in-Err.ensures.does)

use Rattle.std.proofs.Common.{◌+◌, ◌-◌, ap, length, arith, refl, sym, ◌∙◌}
use Rattle.geo_world.proofs.Alone.{does_alone}
use Rattle.geo_world.proofs.Worlds.{there_is, read_is}
use Rattle.geo_world.proofs.Answering.{remove_lawful, remove_agrees}
use Rattle.geo_world.proofs.Keeping.{keep_removed, horizon_kept, drops_kept}
use Rattle.geo_world.proofs.world.World.remove.Goals as goal

pub returns-clause-lawful : goal.returns-clause-lawful
returns-clause-lawful c = λ w agrees.
    let n = length c.args.self.now.sites.items in
    let there = there_is n c.args.site c.requires.there in
    let lo = there.first in
    let hi = there.last in
    let got = read_is c.args.self.now.sites.items (c.args.site - 1) c.index_mut-at.result.now (omega arith) c.index_mut-at.ensures.value in
    remove_lawful _ _ w agrees (c.args.site - 1) c.args.site (omega arith) hi c.index_mut-at.result.now c.remove-count.new.self got c.horizon-horizon.result c.remove-count.result c.horizon-horizon.ensures

pub returns-clause-kept : goal.returns-clause-kept
returns-clause-kept c = λ w agrees.
    let n = length c.args.self.now.sites.items in
    let there = there_is n c.args.site c.requires.there in
    let lo = there.first in
    let hi = there.last in
    let got = read_is c.args.self.now.sites.items (c.args.site - 1) c.index_mut-at.result.now (omega arith) c.index_mut-at.ensures.value in
    remove_agrees _ _ w agrees (c.args.site - 1) c.args.site (omega arith) hi c.index_mut-at.result.now c.remove-count.new.self got c.horizon-horizon.result c.remove-count.result c.remove-count.ensures.does

pub returns-clause-alone : goal.returns-clause-alone
returns-clause-alone c =
    let n = length c.args.self.now.sites.items in
    let there = there_is n c.args.site c.requires.there in
    let lo = there.first in
    let hi = there.last in
    let got = read_is c.args.self.now.sites.items (c.args.site - 1) c.index_mut-at.result.now (omega arith) c.index_mut-at.ensures.value in
    does_alone c.args.self.now.sites.items c.args.site c.index_mut-at.result.now lo got _ _ refl c.remove-count.new.self (c.horizon-horizon.ensures, c.remove-count.ensures.does)

pub returns-clause-tables : goal.returns-clause-tables
returns-clause-tables c = λ w all agrees keep.
    let n = length c.args.self.now.sites.items in
    let there = there_is n c.args.site c.requires.there in
    let lo = there.first in
    let hi = there.last in
    let got = read_is c.args.self.now.sites.items (c.args.site - 1) c.index_mut-at.result.now (omega arith) c.index_mut-at.ensures.value in
    let old = c.index_mut-at.result.now in
    let new = c.remove-count.new.self in
    let own = (agrees.each (c.args.site - 1) c.args.site old (omega arith) got).own in (
      (
        horizon_kept _ _ all keep (c.args.site - 1) c.args.site (omega arith) old new got own c.horizon-horizon.result c.horizon-horizon.ensures,
        drops_kept _ _ all keep (c.args.site - 1) c.args.site (omega arith) old new got own c.remove-count.result c.remove-count.ensures.does c.records-before.result c.records-after.result c.records-before.ensures.records c.records-after.ensures.records
            (ap (λ m. m + c.remove-count.result) c.records-after.ensures.count ∙ c.remove-count.ensures.does.counted ∙ sym c.records-before.ensures.count),
      ),
      keep_removed _ _ all keep (c.args.site - 1) c.args.site (omega arith) old new got own c.remove-count.result c.remove-count.ensures.does,
    )

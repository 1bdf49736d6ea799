use Rattle.std.proofs.Common.{◌-◌, Bool, List, length, arith, ap}
use Rattle.geo_plain.specs.declared.knowledge.Knowledge.{Knowledge}
use Rattle.geo_world.proofs.Worlds.{there_is, read_is}
use Rattle.geo_plain.proofs.Meeting.{meets_retired}
use Rattle.geo_plain.proofs.known.Known.retire.Goals as goal

pub add-requires : goal.add-requires
add-requires c =
    let other = there_is (length c.args.self.now.sites.items) c.args.other c.requires.other_there in
    let lo = other.first in
    let hi = other.last in
    let few = c.requires.few in
    record { first = lo; last = omega (arith, hi, few) }

pub returns-clause-kept : goal.returns-clause-kept
returns-clause-kept c = λ w meets.
    let there = there_is (length c.args.self.now.sites.items) c.args.site c.requires.there in
    let lo = there.first in
    let hi = there.last in
    let got = read_is c.args.self.now.sites.items (c.args.site - 1) c.index_mut-at.result.now (omega arith) c.index_mut-at.ensures.value in
    let old = c.index_mut-at.result.now in
    let holds : List Bool → Knowledge = λ set. record { ops = old.ops; changes = old.changes; hits = old.hits; misses = old.misses; evictions = old.evictions; waiting = old.waiting; reap_after = old.reap_after; retired = set } in
    meets_retired c.args.self.now.sites.items c.args.self.now.sent.items w meets (c.args.site - 1) c.args.site (omega arith) old got (holds c.add.new.self) c.args.other (ap holds c.add.ensures.added)

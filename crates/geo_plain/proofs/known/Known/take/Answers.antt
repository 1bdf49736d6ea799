use Rattle.std.proofs.Common.{◌-◌, Bool, List, length, arith, ap}
use Rattle.geo_plain.specs.declared.knowledge.Knowledge.{Knowledge}
use Rattle.geo_world.proofs.Worlds.{there_is, read_is}
use Rattle.geo_plain.proofs.Meeting.{meets_taken}
use Rattle.geo_plain.proofs.known.Known.take.Goals as goal

pub returns-clause-kept : goal.returns-clause-kept
returns-clause-kept c = λ w meets.
    let there = there_is (length c.args.self.now.sites.items) c.args.site c.requires.there in
    let lo = there.first in
    let hi = there.last in
    let got = read_is c.args.self.now.sites.items (c.args.site - 1) c.index_mut-at.result.now (omega arith) c.index_mut-at.ensures.value in
    let sent = read_is c.args.self.now.sent.items c.args.parcel c.index-sent.result.now c.requires.sent c.index-sent.ensures in
    let mid = c.learn.new.self in
    let holds : List Bool → Knowledge = λ set. record { ops = mid.ops; changes = mid.changes; hits = mid.hits; misses = mid.misses; evictions = mid.evictions; waiting = mid.waiting; reap_after = mid.reap_after; retired = set } in
    meets_taken c.args.self.now.sites.items c.args.self.now.sent.items w meets (c.args.site - 1) c.args.site (omega arith) c.index_mut-at.result.now got mid (holds c.join.new.self) c.args.parcel c.index-sent.result.now c.as_slice.result.now sent c.as_slice.ensures c.in_ok-learn.ensures.rests c.in_ok-learn.ensures.learned (ap holds c.join.ensures)

use Rattle.std.proofs.Common.{◌-◌, length, arith}
use Rattle.geo_world.proofs.Worlds.{there_is, read_is}
use Rattle.geo_plain.proofs.Meeting.{meets_evicted}
use Rattle.geo_plain.proofs.known.Known.evict.Goals as goal

pub returns-clause-kept : goal.returns-clause-kept
returns-clause-kept c = λ w meets.
    let there = there_is (length c.args.self.now.sites.items) c.args.site c.requires.there in
    let lo = there.first in
    let hi = there.last in
    let old = c.index_mut-at.result.now in
    let got = read_is c.args.self.now.sites.items (c.args.site - 1) old (omega arith) c.index_mut-at.ensures.value in
    let e = c.in_ok-evict.ensures in
    meets_evicted c.args.self.now.sites.items c.args.self.now.sent.items w meets (c.args.site - 1) c.args.site (omega arith) old got c.evict.new.self c.args.key.now e.left e.counts e.waiting e.reap_after e.retired

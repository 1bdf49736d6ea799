use Rattle.std.proofs.Common.{◌-◌, length, arith, ◌∙◌}
use Rattle.geo_site.specs.Entries.{counted}
use Rattle.geo_world.specs.Schedule.{visible}
use Rattle.geo_world.proofs.Worlds.{there_is, read_is}
use Rattle.geo_plain.proofs.Meeting.{meets_counted, shows_visible}
use Rattle.geo_plain.proofs.known.Known.count.Goals as goal

pub returns-clause-counts : goal.returns-clause-counts
returns-clause-counts c = λ w meets.
    let there = there_is (length c.args.self.now.sites.items) c.args.site c.requires.there in
    let lo = there.first in
    let hi = there.last in
    let old = c.index_mut-at.result.now in
    let got = read_is c.args.self.now.sites.items (c.args.site - 1) old (omega arith) c.index_mut-at.ensures.value in
    let seen = shows_visible c.args.self.now.sites.items c.args.self.now.sent.items w meets (c.args.site - 1) c.args.site (omega arith) old got c.args.now in
    let was = meets.counted (c.args.site - 1) c.args.site old (omega arith) got in
    let e = c.count.ensures in
    meets_counted c.args.self.now.sites.items c.args.self.now.sent.items w meets (c.args.site - 1) c.args.site (omega arith) old got c.count.new.self (counted (visible w c.args.site c.args.now) c.args.request.now (w.counts c.args.site)) e.ops e.changes e.waiting e.reap_after e.retired
    (e.counts ∙ (λ i. counted (seen i) c.args.request.now (was i)))

use Rattle.std.proofs.Common.{◌-◌, length, arith}
use Rattle.geo_plain.specs.Plain.{act_of}
use Rattle.geo_world.proofs.Worlds.{there_is, read_is}
use Rattle.geo_plain.proofs.Meeting.{meets_issued}
use Rattle.geo_plain.proofs.known.Known.issue.Goals as goal

pub returns-clause-adds : goal.returns-clause-adds
returns-clause-adds c = λ w meets.
    let there = there_is (length c.args.self.now.sites.items) c.args.site c.requires.there in
    let lo = there.first in
    let hi = there.last in
    let old = c.index_mut-at.result.now in
    let got = read_is c.args.self.now.sites.items (c.args.site - 1) old (omega arith) c.index_mut-at.ensures.value in
    meets_issued c.args.self.now.sites.items c.args.self.now.sent.items w meets (c.args.site - 1) c.args.site (omega arith) old got c.issue.new.self (act_of c.args.act) c.in_ok-stamp.stamp (c.in_ok-stamp.ensures.stamp w meets) c.in_ok-issue.ensures.rests c.in_ok-issue.ensures.issued

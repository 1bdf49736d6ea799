use Rattle.std.proofs.Common.{◌-◌, length, arith, refl}
use Rattle.geo_world.proofs.Worlds.{there_is, read_is}
use Rattle.geo_plain.proofs.Meeting.{meets_waits}
use Rattle.geo_plain.proofs.known.Known.wait.Goals as goal

pub returns-clause-kept : goal.returns-clause-kept
returns-clause-kept c = λ w meets.
    let there = there_is (length c.args.self.now.sites.items) c.args.site c.requires.there in
    let lo = there.first in
    let hi = there.last in
    let old = c.index_mut-at.result.now in
    let got = read_is c.args.self.now.sites.items (c.args.site - 1) old (omega arith) c.index_mut-at.ensures.value in
    meets_waits c.args.self.now.sites.items c.args.self.now.sent.items w meets (c.args.site - 1) c.args.site (omega arith) old got _ c.args.waiting refl refl refl refl refl refl

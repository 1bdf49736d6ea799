use Rattle.std.proofs.Common.{◌-◌, [], ◌∷◌, length, true, false, refl, sym, ◌∙◌, arith}
use Rattle.geo_records.specs.Operations.Act.{Flush}
use Rattle.geo_site.specs.Entries.{flushes_due}
use Rattle.geo_world.specs.Schedule.{issues}
use Rattle.geo_world.proofs.Worlds.{there_is, read_is}
use Rattle.geo_plain.proofs.Meeting.{latest_is, still_waits, flushed_kept}
use Rattle.geo_plain.proofs.known.Known.flush_due.Goals as goal

pub returns-then-not-flushes_due-clause-kept : goal.returns-then-not-flushes_due-clause-kept
returns-then-not-flushes_due-clause-kept c = λ w meets.
    let there = there_is (length c.args.self.now.sites.items) c.args.site c.requires.there in
    let lo = there.first in
    let hi = there.last in
    let sites = c.args.self.now.sites.items in
    let sent = c.args.self.now.sent.items in
    let at = c.index.result.now in
    let got = read_is sites (c.args.site - 1) at (omega arith) c.index.ensures in
    let waiting = meets.waits (c.args.site - 1) c.args.site at (omega arith) got in
    let clock = latest_is sites sent w meets (c.args.site - 1) c.args.site (omega arith) at got in
    flushed_kept sites sent w c.args.site c.args.now false ((λ i. flushes_due (sym waiting i) (clock i) c.args.now) ∙ sym c.if-not-flushes_due.ensures)
    (still_waits sites sent w c.args.site (w.waiting c.args.site) refl meets)

pub returns-in-Ok-clause-kept : goal.returns-in-Ok-clause-kept
returns-in-Ok-clause-kept c = λ w meets.
    let there = there_is (length c.args.self.now.sites.items) c.args.site c.requires.there in
    let lo = there.first in
    let hi = there.last in
    let sites = c.args.self.now.sites.items in
    let sent = c.args.self.now.sent.items in
    let at = c.index.result.now in
    let got = read_is sites (c.args.site - 1) at (omega arith) c.index.ensures in
    let waiting = meets.waits (c.args.site - 1) c.args.site at (omega arith) got in
    let clock = latest_is sites sent w meets (c.args.site - 1) c.args.site (omega arith) at got in
    flushed_kept c.wait.new.self.sites.items c.wait.new.self.sent.items w c.args.site c.args.now true ((λ i. flushes_due (sym waiting i) (clock i) c.args.now) ∙ sym c.if-not-flushes_due.ensures)
    (c.wait.ensures.kept (issues w c.args.site (Flush ∷ [])) (c.in-Ok.ensures.adds w meets))

use Rattle.std.proofs.Common.{sym, refl}
use Rattle.geo_site.specs.Sites.{clock_in, waiting_in}
use Rattle.geo_site.proofs.Due.{flushes_where, flush_carried}
use Rattle.geo_site.proofs.site.Site.flush_due.Goals as goal

pub returns : goal.returns
returns c =
    let old = c.args.self.now in
    let e = flushes_where (waiting_in old) (clock_in old) c.args.now (sym c.if-not-has_due_flush.ensures) c.in-Some.ensures.0 in
    record {
      flush = flush_carried old _ c.args.now e c.flush.ensures.issued refl c.flush.ensures.rests.0 c.flush.ensures.stays;
      said = sym e;
    }

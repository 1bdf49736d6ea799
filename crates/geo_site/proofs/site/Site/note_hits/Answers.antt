use Rattle.geo_values.specs.Held.{stock_in}
use Rattle.geo_site.specs.Sites.{state_in}
use Rattle.geo_site.proofs.Found.{hits_more}
use Rattle.geo_site.proofs.site.Site.note_hits.Goals as goal

pub loop-number-preserved : goal.loop-number-preserved
loop-number-preserved c =
    let before = c.loop-number.invariant in
    let first = (state_in c.args.self.now).stock in (
      record {
        vector = before.0.vector;
        floor = before.0.floor;
        map = before.0.map;
        stock = hits_more c.args.found.now c.loop-number.number c.index-found-number.result first (stock_in c.loop-number.self.values) (stock_in c.hit_at.new.self) c.loop-number-test.true c.index-found-number.is before.0.stock c.hit_at.ensures.hit;
      },
      before.1,
      before.2,
    )

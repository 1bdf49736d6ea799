use Rattle.std.proofs.Common.{sym, ◌∙◌}
use Rattle.geo_world.proofs.Coming.{there_more, few_more}
use Rattle.geo_world.proofs.there.first_missing.Goals as goal

pub loop-index-preserved : goal.loop-index-preserved
loop-index-preserved c =
    let inv = c.loop-index.invariant in
    let lt = c.loop-index-test.true in
    let at = c.index-events-index.is in
    let events = c.args.events.now in
    record {
      there = there_more c.args.sites events c.loop-index.index c.loop-index.parcels c.index-events-index.result inv.there lt at c.with_made-parcels.result (sym c.is_at_hand.ensures ∙ c.if-not-is_at_hand.false) c.with_made-parcels.ensures;
      few = few_more c.args.sites events c.loop-index.index c.loop-index.parcels c.index-events-index.result inv.there lt at c.with_made-parcels.result c.with_made-parcels.ensures inv.few;
    }

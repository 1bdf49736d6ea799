use Rattle.std.proofs.Common.{subst, sym, map, arith, All}
use Rattle.std.proofs.lemmas.List.{take_all}
use Rattle.std.proofs.lemmas.List.Elements.{All-push}
use Rattle.toml.specs.View.{items_view}
use Rattle.geo_config.specs.Document.{AreRows, row_of_draft}
use Rattle.geo_config.specs.Draft.{SiteDraftIsTied}
use Rattle.geo_config.proofs.Rows.{rows_more}
use Rattle.geo_config.proofs.draft.site_drafts.Goals as goal

pub loop-row-preserved : goal.loop-row-preserved
loop-row-preserved c =
    let was = c.loop-row.sites.items in
    let one = c.in_ok-site_draft.ensures in
    record {
      tied = subst (All (SiteDraftIsTied c.args.over_tcp)) (sym c.in_ok-push.ensures.items) (All-push (SiteDraftIsTied c.args.over_tcp) was _ c.loop-row.invariant.tied one.tied);
      rows = rows_more c.args.over_tcp c.in_ok-rows.rows.now c.loop-row.row-index c.row-item.result was _ _ (omega arith) c.row-item.is c.in_ok-push.ensures.items c.loop-row.invariant.rows one.says;
    }

pub returns-clause-say : goal.returns-clause-say
returns-clause-say c = record {
  values = items_view c.in_ok-rows.rows.now;
  stand = c.in_ok-rows.ensures;
  each = subst (λ l. AreRows c.args.over_tcp (items_view l) (map row_of_draft c.loop-row.sites.items)) (take_all c.loop-row.row-index c.in_ok-rows.rows.now (omega arith)) c.loop-row.invariant.rows;
}

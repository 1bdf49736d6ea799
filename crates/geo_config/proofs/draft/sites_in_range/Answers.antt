use Rattle.std.proofs.Common.{All, arith, subst, sym}
use Rattle.std.proofs.lemmas.Grind.{common_steps}
use Rattle.std.proofs.lemmas.List.Elements.{All-push}
use Rattle.geo_config.specs.Lawful.{SiteIsInRange}
use Rattle.geo_config.proofs.Rows.{drafts_more}
use Rattle.geo_config.proofs.draft.sites_in_range.Goals as goal

pub loop-draft-preserved : goal.loop-draft-preserved
loop-draft-preserved c =
    let one = c.in_ok-site_in_range.ensures in
    record {
      each = subst (All (SiteIsInRange c.args.link)) (sym c.in_ok-push.ensures.items) (All-push (SiteIsInRange c.args.link) c.loop-draft.sites.items _ c.loop-draft.invariant.each one.in_range);
      count = grind (arith, common_steps);
      rows = drafts_more _ _ _ _ _ c.in_ok-push.ensures.items c.loop-draft.invariant.rows one.row;
    }

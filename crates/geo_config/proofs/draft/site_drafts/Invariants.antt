use Rattle.std.proofs.Common.{All, map, take}
use Rattle.toml.specs.View.{items_view}
use Rattle.geo_config.specs.Document.{AreRows, row_of_draft}
use Rattle.geo_config.specs.Draft.{SiteDraftIsTied}
use Rattle.geo_config.proofs.draft.site_drafts.Given as goal

abbrev pub invariant-loop-row : goal.invariant-loop-row
invariant-loop-row l = record {
  tied : All (SiteDraftIsTied l.over_tcp) l.sites.items;
  rows : AreRows l.over_tcp (items_view (take l.row-index l.rows)) (map row_of_draft l.sites.items);
}

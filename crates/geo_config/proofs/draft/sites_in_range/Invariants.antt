use Rattle.std.proofs.Common.{◌≡◌, All, length, map, vec_len}
use Rattle.geo_config.specs.Document.{row_of, row_of_draft}
use Rattle.geo_config.specs.Lawful.{SiteIsInRange}
use Rattle.geo_config.proofs.draft.sites_in_range.Given as goal

abbrev pub invariant-loop-draft : goal.invariant-loop-draft
invariant-loop-draft l = record {
  each : All (SiteIsInRange l.link) l.sites.items;
  count : vec_len l.sites ≡ length l.yielded;
  rows : map row_of l.sites.items ≡ map row_of_draft l.yielded;
}

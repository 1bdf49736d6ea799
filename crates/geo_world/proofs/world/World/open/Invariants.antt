use Rattle.std.proofs.Common.{◌≡◌, ℕ, ◌+◌, length, slice_get, Some}
use Rattle.geo_site.specs.declared.site.Site.{Site}
use Rattle.geo_world.specs.Setups.{limits_of}
use Rattle.geo_world.specs.Doing.{EachOpens}
use Rattle.geo_world.proofs.Opening.{Silent}
use Rattle.geo_world.proofs.world.World.open.Given as goal

abbrev pub invariant-loop-setup : goal.invariant-loop-setup
invariant-loop-setup l = record {
  many : length l.sites.items ≡ l.setup-index;
  opens : EachOpens l.setup-items l.sites.items;
  each : (k number : ℕ) (site : Site) → number ≡ k + 1 → slice_get l.sites.items k ≡ Some site → Silent (length l.setup-items) number site (limits_of l.setup-items number);
}

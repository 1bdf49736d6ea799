use Rattle.std.proofs.Common.{◌≡◌, None, drop, length}
use Rattle.std.specs.Prelude.{option_copied}
use Rattle.geo_versions.specs.Maps.{keys_in}
use Rattle.geo_site.specs.Sites.{state_in}
use Rattle.geo_site.specs.Fills.{is_sought}
use Rattle.geo_site.proofs.Missing.{least_from}
use Rattle.geo_site.proofs.site.Site.missing.Given as goal

-- what was found is the least of the keys that were passed
abbrev pub invariant-loop-place : goal.invariant-loop-place
invariant-loop-place l = record {
  found : least_from (is_sought (state_in l.self) l.now (option_copied l.after)) (option_copied l.first) (drop l.place (keys_in l.self.versions))
      ≡ least_from (is_sought (state_in l.self) l.now (option_copied l.after)) None (keys_in l.self.versions);
  all : length (keys_in l.self.versions) ≡ l.place-end;
}

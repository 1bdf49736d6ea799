use Rattle.std.proofs.Common.{◌≡◌, length, take}
use Rattle.std.specs.Prelude.{option_copied}
use Rattle.geo_versions.specs.Maps.{keys_in}
use Rattle.geo_site.specs.Sites.{state_in}
use Rattle.geo_site.specs.Fills.{is_sought}
use Rattle.geo_site.proofs.Gathered.{Gathered, Among}
use Rattle.geo_site.proofs.site.Site.first_missing.Given as goal

-- what was found are the least of the keys that were passed
abbrev pub invariant-loop-at : goal.invariant-loop-at
invariant-loop-at l = record {
  found : Gathered (is_sought (state_in l.self) l.now (option_copied l.after)) l.most (λ q. Among q (take l.at (keys_in l.self.versions))) l.found.items;
  all : length (keys_in l.self.versions) ≡ l.at-end;
}

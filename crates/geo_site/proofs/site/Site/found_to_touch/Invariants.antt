use Rattle.std.proofs.Common.{◌≡◌, false, take}
use Rattle.geo_memcache.specs.Entries.{is_live}
use Rattle.geo_site.specs.Passing.{HasPassed}
use Rattle.geo_site.specs.Machine.{visible_in}
use Rattle.geo_site.specs.Sites.{state_in, touched_in}
use Rattle.geo_site.proofs.site.Site.found_to_touch.Given as goal

abbrev pub invariant-loop-index : goal.invariant-loop-index
invariant-loop-index l = (l.findings.all.items ≡ touched_in l.self l.now l.expiry (take l.index l.keys) l.numbers) × (is_live l.expiry l.now ≡ false → HasPassed (visible_in (state_in l.self) l.now) l.passed (take l.index l.keys))

use Rattle.std.proofs.Common.{◌≡◌, take}
use Rattle.geo_site.specs.Entries.{found_of}
use Rattle.geo_site.specs.Machine.{visible_in}
use Rattle.geo_site.specs.Sites.{state_in}
use Rattle.geo_site.proofs.site.Site.found.Given as goal

abbrev pub invariant-loop-key : goal.invariant-loop-key
invariant-loop-key l = l.findings.all.items ≡ found_of l.numbers (visible_in (state_in l.self) l.now) (take l.key-index l.keys)

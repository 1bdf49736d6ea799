use Rattle.std.proofs.Common.{take}
use Rattle.geo_site.specs.Entries.{keys_found}
use Rattle.geo_site.specs.Machine.{Same, accessed}
use Rattle.geo_site.specs.Sites.{state_in, Rests, Stays}
use Rattle.geo_site.proofs.site.Site.note_hits.Given as goal

abbrev pub invariant-loop-number : goal.invariant-loop-number
invariant-loop-number l =
    Same (accessed (keys_found (take l.number l.found)) (state_in l.initial.self)) (state_in l.self)
    × Rests l.initial.self l.self × Stays l.initial.self l.self

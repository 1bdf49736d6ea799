use Rattle.std.proofs.Common.{◌≡◌, ℕ, ◌+◌, List, take}
use Rattle.geo_site.specs.Entries.{touches_of}
use Rattle.geo_site.specs.Machine.{Same, issue_all}
use Rattle.geo_site.specs.Sites.{state_in, clock_in, Rests, Stays}
use Rattle.geo_site.proofs.site.Site.renew_all.Given as goal

abbrev pub invariant-loop-entry : goal.invariant-loop-entry
invariant-loop-entry l =
    Same (issue_all l.initial.self.number (touches_of l.expiry (take l.entry-index l.found)) (state_in l.initial.self)) (state_in l.self)
    × ((q : List ℕ) → ((state_in l.self).map q).0 ≡ ((state_in l.initial.self).map q).0)
    × (clock_in l.self ≡ clock_in l.initial.self + l.entry-index)
    × Rests l.initial.self l.self × Stays l.initial.self l.self

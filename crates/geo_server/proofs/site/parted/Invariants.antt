use Rattle.std.proofs.Common.{◌≡◌, All}
use Rattle.geo_server.proofs.site.parted.Given as goal

-- each seat of a tally so far is of the one that is named
abbrev pub invariant-loop-one : goal.invariant-loop-one
invariant-loop-one g l = All (λ s. s.tally ≡ g.N.Named.tally) l.counts.items

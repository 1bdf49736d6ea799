use Rattle.std.proofs.Common.{◌≤◌}
use Rattle.geo_maps.specs.Maps.{EachOf}
use Rattle.geo_maps.proofs.map_of.MapOf.least.Given as goal

abbrev pub invariant-loop-i : goal.invariant-loop-i
invariant-loop-i g l = EachOf (λ k v. l.least ≤ g.M.Measure.measured l.measure v) l.self-inside.entries.entries l.i

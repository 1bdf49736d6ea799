use Rattle.std.proofs.Common.{◌≡◌, false}
use Rattle.geo_maps.specs.Maps.{EachOf}
use Rattle.geo_maps.proofs.map_of.MapOf.found.Given as goal

abbrev pub invariant-loop-i : goal.invariant-loop-i
invariant-loop-i g l = EachOf (λ k v. g.T.Test.passing l.test v ≡ false) l.self-inside.entries.entries l.i

use Rattle.std.proofs.Common.{◌≡◌, ◌-◌, ◌&&◌, false, nat_lt, length}
use Rattle.geo_maps.specs.Maps.{EachOf}
use Rattle.geo_maps.proofs.map_of.MapOf.found_below.Given as goal

-- none that was passed is what is sought
abbrev pub invariant-loop-place : goal.invariant-loop-place
invariant-loop-place g l = EachOf (λ k v. (nat_lt (g.M.Measure.measured l.column.measure v) l.bound && g.T.Test.passing l.test v) ≡ false) l.self-inside.entries.entries l.place

abbrev pub decreases-loop-place : goal.decreases-loop-place
decreases-loop-place g l = length l.self-inside.entries.entries - l.place

use Rattle.std.proofs.Common.{map}
use Rattle.geo_maps.proofs.Showing.{plain, kept}
use Rattle.geo_maps.proofs.Told.{Told}
use Rattle.geo_maps.proofs.map_of.MapOf.as_they_came.Given as goal

-- what came up to here was told
abbrev pub invariant-loop-index : goal.invariant-loop-index
invariant-loop-index g l = Told g.K.PartialEq.eq l.self-inside.entries.entries l.coming.came.items (kept (g.S.Show.shown l.show)) l.index (map plain l.all.items)

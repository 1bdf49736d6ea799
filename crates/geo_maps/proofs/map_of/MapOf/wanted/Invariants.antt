use Rattle.std.proofs.Common.{◌≡◌, ◌≤◌, take}
use Rattle.geo_maps.specs.Maps.{missing}
use Rattle.geo_maps.proofs.map_of.MapOf.wanted.Given as goal

-- so many of the first values have no place
abbrev pub invariant-loop-index : goal.invariant-loop-index
invariant-loop-index g l = (l.lacking ≡ missing g.K.PartialEq.eq l.self.entries (take l.index l.values)) × (l.lacking ≤ l.index)

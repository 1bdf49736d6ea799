use Rattle.std.proofs.Common.{Some}
use Rattle.geo_maps.specs.Maps.{get, RoomFor, EachOf}
use Rattle.geo_maps.proofs.map_of.MapOfLattice.has_room.Given as goal

abbrev pub invariant-loop-i : goal.invariant-loop-i
invariant-loop-i g l = EachOf (λ k v. RoomFor g.L.Lattice.HasRoom (get g.K.PartialEq.eq l.self k) (Some v)) l.other-inside.entries.entries l.i

use Rattle.std.proofs.Common.{◌≡◌}
use Rattle.geo_maps.specs.Maps.{get, meaning_or, EachOf}
use Rattle.geo_maps.proofs.map_of.MapOfLattice.covers.Given as goal

abbrev pub invariant-loop-i : goal.invariant-loop-i
invariant-loop-i g l =
    let at = meaning_or g.L.Lattice.least g.L.Lattice.meaning in
    EachOf (λ k v. g.L.Lattice.joined (at (get g.K.PartialEq.eq l.self k)) (g.L.Lattice.meaning v) ≡ at (get g.K.PartialEq.eq l.self k)) l.other-inside.entries.entries l.i

use Rattle.std.proofs.Common.{◌≡◌, ◌≤◌, length}
use Rattle.std.specs.Map.{lookup}
use Rattle.geo_maps.specs.Maps.{get, meaning_or, RoomFor, missing}
use Rattle.geo_maps.proofs.map_of.MapOfLattice.join.Given as goal

-- what has been joined with what is left is the whole, and there is room for what is left
abbrev pub invariant-loop-key : goal.invariant-loop-key
invariant-loop-key g l =
    let at = meaning_or g.L.Lattice.least g.L.Lattice.meaning in
    let eq = g.K.PartialEq.eq in
    record {
      total : (q : g.row.K.Denot) → g.L.Lattice.joined (at (get eq l.self q)) (at (lookup (eq q) l.entries.entries)) ≡ g.L.Lattice.joined (at (get eq l.initial.self q)) (at (lookup (eq q) l.initial.entries.entries));
      keys : missing eq l.self.entries l.entries.entries ≤ l.self.spare;
      values : (q : g.row.K.Denot) → RoomFor g.L.Lattice.HasRoom (get eq l.self q) (lookup (eq q) l.entries.entries);
    }

abbrev pub decreases-loop-key : goal.decreases-loop-key
decreases-loop-key g l = length l.entries.entries

use Rattle.std.proofs.Common.{◌≡◌, ◌≤◌}
use Rattle.std.specs.Map.{lookup}
use Rattle.geo_maps.specs.Maps.{get, meaning_or, missing, EachOf, RoomFor}
use Rattle.geo_maps.proofs.Joining.{OwnRoom}
use Rattle.geo_maps.proofs.map_of.MapOfLattice.ready.Given as goal

abbrev pub invariant-loop-i : goal.invariant-loop-i
invariant-loop-i g l =
    let at = meaning_or g.L.Lattice.least g.L.Lattice.meaning in
    let eq = g.K.PartialEq.eq in
    let theirs = l.other-inside.entries.entries in
    record {
      kept : (q : g.row.K.Denot) → at (get eq l.self q) ≡ at (get eq l.initial.self q);
      room : EachOf (OwnRoom g.L.Lattice.HasRoom eq l.self.entries theirs) theirs l.i;
      places : missing eq l.initial.self.entries theirs ≤ l.initial.self.spare → missing eq l.self.entries theirs ≤ l.self.spare;
      values : ((q : g.row.K.Denot) → RoomFor g.L.Lattice.HasRoom (get eq l.initial.self q) (lookup (eq q) theirs)) → (q : g.row.K.Denot) → RoomFor g.L.Lattice.HasRoom (get eq l.self q) (lookup (eq q) theirs);
    }

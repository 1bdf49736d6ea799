use Rattle.std.proofs.Common.{◌≡◌, ◌≤◌}
use Rattle.geo_maps.specs.Maps.{get, meaning_or, all_joined, missing, IsColumn}
use Rattle.geo_maps.proofs.map_of.MapOf.join_list_beside.Given as goal

-- what has been joined with what is left is the whole, and there is room for what is left
abbrev pub invariant-loop-key : goal.invariant-loop-key
invariant-loop-key g l =
    let at = meaning_or g.L.Lattice.least g.L.Lattice.meaning in
    let eq = g.K.PartialEq.eq in
    let left = all_joined {V = g.row.L.Denot} g.L.Lattice.least (λ v. g.L.Lattice.meaning (g.C.Change.changed l.by v)) g.L.Lattice.joined eq in
    record {
      total : (q : g.row.K.Denot) → g.L.Lattice.joined (at (get eq l.self q)) (left l.values.items q) ≡ g.L.Lattice.joined (at (get eq l.initial.self q)) (left l.initial.values.items q);
      keys : missing eq l.self.entries l.values.items ≤ l.self.spare;
      column : IsColumn (g.M.Measure.measured l.column.measure) l.self.entries l.column.measures.items;
      other : IsColumn (g.N.Measure.measured l.column.other) l.self.entries l.column.others.items;
      measure : l.column.measure ≡ l.initial.column.measure;
      measured : l.column.other ≡ l.initial.column.other;
    }

abbrev pub decreases-loop-key : goal.decreases-loop-key
decreases-loop-key g l = goal.left-loop-key g l

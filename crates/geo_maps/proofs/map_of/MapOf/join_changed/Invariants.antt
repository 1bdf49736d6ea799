use Rattle.std.proofs.Common.{◌≡◌, ◌≤◌, length}
use Rattle.std.specs.Map.{lookup}
use Rattle.geo_maps.specs.Maps.{get, meaning_or, missing}
use Rattle.geo_maps.proofs.map_of.MapOf.join_changed.Given as goal

-- what has been joined with what is left is the whole, and there is room for what is left
abbrev pub invariant-loop-key : goal.invariant-loop-key
invariant-loop-key g l =
    let at = meaning_or g.L.Lattice.least g.L.Lattice.meaning in
    let left = meaning_or {V = g.row.L.Denot} g.L.Lattice.least (λ v. g.L.Lattice.meaning (g.C.Change.changed l.by v)) in
    let eq = g.K.PartialEq.eq in
    record {
      total : (q : g.row.K.Denot) → g.L.Lattice.joined (at (get eq l.self q)) (left (lookup (eq q) l.entries.entries)) ≡ g.L.Lattice.joined (at (get eq l.initial.self q)) (left (lookup (eq q) l.initial.entries.entries));
      keys : missing eq l.self.entries l.entries.entries ≤ l.self.spare;
    }

abbrev pub decreases-loop-key : goal.decreases-loop-key
decreases-loop-key g l = length l.entries.entries

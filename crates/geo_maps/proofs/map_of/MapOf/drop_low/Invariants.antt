use Rattle.std.proofs.Common.{◌≡◌, ◌≤◌, ◌-◌, false, cond, length}
use Rattle.geo_maps.specs.Maps.{meaning_at, IsColumn, EachOf}
use Rattle.geo_maps.proofs.map_of.MapOf.drop_low.Given as goal

-- what is left means what it meant but for what passes, and nothing that was passed over does
abbrev pub invariant-loop-place : goal.invariant-loop-place
invariant-loop-place g l =
    let kept = λ (v : g.row.L.Denot). cond (g.T.Test.passing l.test v) g.L.Lattice.least (g.L.Lattice.meaning v) in
    record {
      meant : (q : g.row.K.Denot) → meaning_at g.L.Lattice.least kept g.K.PartialEq.eq l.self q ≡ meaning_at g.L.Lattice.least kept g.K.PartialEq.eq l.initial.self q;
      stay : EachOf (λ k v. g.T.Test.passing l.test v ≡ false) l.self.entries l.place;
      least : EachOf (λ k v. l.least ≤ g.N.Measure.measured l.column.other v) l.self.entries l.place;
      column : IsColumn (g.M.Measure.measured l.column.measure) l.self.entries l.column.measures.items;
      other : IsColumn (g.N.Measure.measured l.column.other) l.self.entries l.column.others.items;
      measure : l.column.measure ≡ l.initial.column.measure;
      measured : l.column.other ≡ l.initial.column.other;
      fewer : length l.self.entries ≤ length l.initial.self.entries;
      room : l.initial.self.spare ≤ l.self.spare;
    }

abbrev pub decreases-loop-place : goal.decreases-loop-place
decreases-loop-place g l = length l.self.entries - l.place

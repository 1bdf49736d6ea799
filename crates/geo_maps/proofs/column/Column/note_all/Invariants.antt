use Rattle.std.proofs.Common.{◌≡◌, ◌≤◌}
use Rattle.geo_maps.specs.Maps.{IsColumn, EachOf}
use Rattle.geo_maps.proofs.column.Column.note_all.Given as goal

-- what is noted so far are measures
abbrev pub invariant-loop-place : goal.invariant-loop-place
invariant-loop-place g l = record {
  column : IsColumn (g.M.Measure.measured l.self.measure) l.map-inside.entries.entries l.self.measures.items;
  other : IsColumn (g.N.Measure.measured l.self.other) l.map-inside.entries.entries l.self.others.items;
  least : EachOf (λ k v. l.least ≤ g.N.Measure.measured l.self.other v) l.map-inside.entries.entries l.place;
  measure : l.self.measure ≡ l.fn.self.measure;
  measured : l.self.other ≡ l.fn.other;
  counted : (l.self.held ≡ l.fn.self.held) × (l.self.room ≡ l.fn.self.room);
}

use Rattle.std.proofs.Common.{◌≡◌, [], List, length}
use Rattle.std.specs.Map.{lookup}
use Rattle.geo_maps.specs.Maps.{missing}
use Rattle.geo_maps.proofs.map_of.MapOf.settle.Given as goal

-- the same values stand there
abbrev pub invariant-loop-place : goal.invariant-loop-place
invariant-loop-place g l = record {
  same : (q : g.row.K.Denot) → lookup (g.K.PartialEq.eq q) l.self-inside.entries.entries ≡ lookup (g.K.PartialEq.eq q) l.initial.self-inside.entries.entries;
  as_many : (mine : List (g.row.K.Denot × g.row.L.Denot)) → missing g.K.PartialEq.eq mine l.self-inside.entries.entries ≡ missing g.K.PartialEq.eq mine l.initial.self-inside.entries.entries;
  count : length l.self-inside.entries.entries ≡ l.place-end;
  none : l.column.measures.items ≡ [];
  none_other : l.column.others.items ≡ [];
  measure : l.column.measure ≡ l.fn.column.measure;
  other : l.column.other ≡ l.fn.column.other;
}

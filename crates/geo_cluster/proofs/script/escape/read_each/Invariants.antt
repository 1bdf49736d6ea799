use Rattle.std.proofs.Common.{◌≡◌, drop}
use Rattle.geo_cluster.specs.Escapes.{behind, unescaped_from, IsSmall}
use Rattle.geo_cluster.proofs.script.escape.read_each.Given as goal

abbrev pub invariant-loop-at : goal.invariant-loop-at
invariant-loop-at l = record {
  same : behind l.bytes.items (unescaped_from l.spot (drop l.at l.text)) ≡ behind l.initial.bytes.items (unescaped_from l.fn.start (drop l.fn.from l.text));
  small : IsSmall l.spot;
}

use Rattle.std.proofs.Common.{◌≡◌, ◌≤◌, ◌-◌, drop, length}
use Rattle.geo_cluster.specs.Escapes.{behind, unescaped_from, unescaped, IsSmall}
use Rattle.geo_cluster.proofs.script.escape.unescape.Given as goal

abbrev pub invariant-loop-at : goal.invariant-loop-at
invariant-loop-at l = record {
  within : l.at ≤ length l.text;
  same : behind l.bytes.items (unescaped_from l.spot (drop l.at l.text)) ≡ unescaped l.text;
  small : IsSmall l.spot;
}

abbrev pub decreases-loop-at : goal.decreases-loop-at
decreases-loop-at l = length l.text - l.at

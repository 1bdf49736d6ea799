use Rattle.std.proofs.Common.{◌≡◌, ◌≤◌, drop, List, ℕ, length}
use Rattle.std.specs.List.{list_all}
use Rattle.geo_records.specs.Keys.{is_key_byte}
use Rattle.geo_cluster.specs.Escapes.{behind, unescaped_from, unescaped, IsSmall}
use Rattle.geo_cluster.proofs.script.escape.spelling.Given as goal

abbrev pub invariant-loop-byte : goal.invariant-loop-byte
invariant-loop-byte l = record {
  done : List ℕ;
  same : behind done (unescaped_from l.spot (drop l.byte-index l.text)) ≡ unescaped l.text;
  counts : l.count ≡ length done;
  few : l.count ≤ l.byte-index;
  fits : l.stand ≡ list_all is_key_byte done;
  small : IsSmall l.spot;
}

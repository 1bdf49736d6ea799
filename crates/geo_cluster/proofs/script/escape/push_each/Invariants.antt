use Rattle.std.proofs.Common.{◌≡◌, ◌++◌, drop}
use Rattle.geo_cluster.specs.Escapes.{escaped}
use Rattle.geo_cluster.proofs.script.escape.push_each.Given as goal

abbrev pub invariant-loop-byte : goal.invariant-loop-byte
invariant-loop-byte l = l.out.items ++ escaped (drop l.byte-index l.bytes) ≡ l.initial.out.items ++ escaped l.bytes

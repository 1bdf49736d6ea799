use Rattle.std.proofs.Common.{◌≡◌, ◌++◌, length}
use Rattle.geo_cluster.specs.Escapes.{escaped}
use Rattle.geo_cluster.proofs.script.escape.push_all_escaped.Given as goal

abbrev pub invariant-loop-rest : goal.invariant-loop-rest
invariant-loop-rest l = l.out.items ++ escaped l.rest ≡ l.initial.out.items ++ escaped l.bytes

abbrev pub decreases-loop-rest : goal.decreases-loop-rest
decreases-loop-rest l = length l.rest

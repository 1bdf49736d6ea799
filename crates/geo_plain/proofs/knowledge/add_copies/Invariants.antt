use Rattle.std.proofs.Common.{◌≡◌, ◌++◌, take}
use Rattle.geo_plain.proofs.knowledge.add_copies.Given as goal

abbrev pub invariant-loop-op : goal.invariant-loop-op
invariant-loop-op l = l.to.items ≡ l.fn.to.items ++ take l.op-index l.ops

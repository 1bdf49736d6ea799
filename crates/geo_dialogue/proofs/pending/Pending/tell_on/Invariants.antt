use Rattle.std.proofs.Common.{length}
use Rattle.geo_dialogue.specs.Pendings.{Tells, untold_in}
use Rattle.geo_dialogue.proofs.pending.Pending.tell_on.Given as goal

abbrev pub invariant-loop-self : goal.invariant-loop-self
invariant-loop-self l = Tells l.fn.self l.self

abbrev pub decreases-loop-self : goal.decreases-loop-self
decreases-loop-self l = length (untold_in l.self)

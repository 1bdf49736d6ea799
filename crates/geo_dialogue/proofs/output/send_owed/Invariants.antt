use Rattle.std.proofs.Common.{◌≡◌, false, length}
use Rattle.geo_dialogue.specs.Sessions.{Sends}
use Rattle.geo_dialogue.proofs.output.send_owed.Given as goal

abbrev pub invariant-loop-writer : goal.invariant-loop-writer
invariant-loop-writer g l = record {
  sends : Sends l.initial.session l.session (g.W.Write.contents l.fn.writer.inner) (g.W.Write.contents l.writer.inner);
  works : l.fn.writer.failed ≡ false → l.writer.failed ≡ false;
}

abbrev pub decreases-loop-writer : goal.decreases-loop-writer
decreases-loop-writer g l = length l.session.owed

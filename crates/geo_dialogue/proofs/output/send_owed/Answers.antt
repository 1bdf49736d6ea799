use Rattle.geo_dialogue.proofs.Lists.{not_failed}
use Rattle.geo_dialogue.proofs.Pieces.{Sends-then}
use Rattle.geo_dialogue.proofs.output.send_owed.Goals as goal

pub loop-writer-preserved : goal.loop-writer-preserved
loop-writer-preserved g c = record {
  sends = Sends-then c.args.session.now c.loop-writer.session c.sent.new.self (g.W.Write.contents c.args.writer.now.inner) (g.W.Write.contents c.loop-writer.writer.inner) (g.W.Write.contents c.write.new.self.inner) c.in-Ok.count c.owed-in-loop-writer.result.now
      c.loop-writer.invariant.sends c.sent.ensures c.owed-in-loop-writer.ensures c.in-Ok.ensures.bytes;
  works = λ _. not_failed c.write.new.self.failed c.in-Ok.ensures.failed.1;
}

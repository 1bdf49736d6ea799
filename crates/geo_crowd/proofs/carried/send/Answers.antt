use Rattle.std.proofs.Common.{◌∙◌}
use Rattle.geo_dialogue.proofs.Pieces.{Sends-then}
use Rattle.geo_crowd.proofs.carried.send.Goals as goal

pub loop-stream-preserved : goal.loop-stream-preserved
loop-stream-preserved g c = record {
  sends = Sends-then c.args.session.now c.loop-stream.session c.sent.new.self (g.S.Stream.contents c.args.stream.now) (g.S.Stream.contents c.loop-stream.stream) (g.S.Stream.contents c.write.new.self) c.in-Bytes.count c.owed-in-loop-stream.result.now
      c.loop-stream.invariant.sends c.sent.ensures c.owed-in-loop-stream.ensures c.in-Bytes.ensures.accepts.1;
  stays = c.in-Bytes.ensures.stays ∙ c.loop-stream.invariant.stays;
  given = c.in-Bytes.ensures.last ∙ c.loop-stream.invariant.given;
}

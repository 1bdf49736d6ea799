use Rattle.std.proofs.Common.{◌≡◌, length}
use Rattle.geo_dialogue.specs.Sessions.{Sends}
use Rattle.geo_crowd.proofs.carried.send.Given as goal

abbrev pub invariant-loop-stream : goal.invariant-loop-stream
invariant-loop-stream g l = record {
  sends : Sends l.initial.session l.session (g.S.Stream.contents l.fn.stream) (g.S.Stream.contents l.stream);
  stays : g.S.Stream.remaining l.stream ≡ g.S.Stream.remaining l.fn.stream;
  given : g.S.Stream.last_given l.stream ≡ g.S.Stream.last_given l.fn.stream;
}

abbrev pub decreases-loop-stream : goal.decreases-loop-stream
decreases-loop-stream g l = length l.session.owed

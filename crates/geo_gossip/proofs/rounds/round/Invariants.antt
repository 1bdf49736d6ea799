use Rattle.geo_gossip.proofs.Going.{Goes}
use Rattle.geo_gossip.proofs.rounds.round.Given as goal

abbrev pub invariant-loop-at : goal.invariant-loop-at
invariant-loop-at g l = Goes g.K.Link.puts g.K.Link.put_fails l.fn.peers l.peers l.fn.seat l.at l.seat l.count

use Rattle.geo_gossip.specs.Fetching.{ways}
use Rattle.geo_gossip.proofs.Fetched.{Fetched}
use Rattle.geo_gossip.proofs.fetching.ask_all.Given as goal

abbrev pub invariant-loop-at : goal.invariant-loop-at
invariant-loop-at g l =
    Fetched (ways g.K.Link.puts g.K.Link.gets g.K.Link.put_fails g.K.Link.get_fails g.K.Link.closes) l.fn.peers l.peers l.at l.fn.sought.items l.sought.items l.fn.seat l.seat l.done

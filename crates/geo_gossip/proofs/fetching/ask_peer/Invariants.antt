use Rattle.std.proofs.Common.{◌-◌, length}
use Rattle.geo_gossip.specs.Fetching.{ways}
use Rattle.geo_gossip.proofs.Asking.{Goes}
use Rattle.geo_gossip.proofs.fetching.ask_peer.Given as goal

abbrev pub invariant-loop-at : goal.invariant-loop-at
invariant-loop-at g l =
    Goes (ways g.K.Link.puts g.K.Link.gets g.K.Link.put_fails g.K.Link.get_fails g.K.Link.closes) l.fn.peer.site l.fn.sought.items l.sought.items l.at l.fn.peer.link l.link l.fn.seat l.seat l.done

abbrev pub decreases-loop-at : goal.decreases-loop-at
decreases-loop-at g l = length l.sought.items - l.at

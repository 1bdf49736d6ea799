use Rattle.std.proofs.Common.{◌+◌, ◌≤◌}
use Rattle.geo_gossip.specs.Rounds.{KeepsLast}
use Rattle.geo_gossip.proofs.Hearing.{HearsSome}
use Rattle.geo_gossip.proofs.receiving.receive.Given as goal

-- each parcel that was taken is a step of the seat, and the seat keeps its last call alone
abbrev pub invariant-loop : goal.invariant-loop
invariant-loop g l =
    (goal.iterator-loop g).can_next l.iterator' × (goal.iterator-loop g).is_finite l.iterator'
    × (l.fn.seat.steps + l.count ≤ l.seat.steps)
    × KeepsLast l.fn.seat l.seat
    × HearsSome g.K.Link.puts g.K.Link.gets g.K.Link.put_fails g.K.Link.get_fails l.fn.link l.link l.fn.seat l.seat l.count

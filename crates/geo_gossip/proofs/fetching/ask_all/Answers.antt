use Rattle.std.proofs.Common.{arith, ◌<◌, ◌≤◌, length}
use Rattle.geo_gossip.specs.Fetching.{ways}
use Rattle.geo_gossip.proofs.Fetched.{fetched_none, fetched_next, fetched_early, fetched_all}
use Rattle.geo_gossip.proofs.fetching.ask_all.Goals as goal

pub loop-at-init : goal.loop-at-init
loop-at-init g c = fetched_none _ _ _ _ c.requires.few

pub returns-then-not-goes_on-clause-asks : goal.returns-then-not-goes_on-clause-asks
returns-then-not-goes_on-clause-asks g c =
    let by = ways g.K.Link.puts g.K.Link.gets g.K.Link.put_fails g.K.Link.get_fails g.K.Link.closes in
    let lt : c.loop-at.at < length c.loop-at.peers = omega (arith, c.loop-at-test.true, c.loop-at.invariant.long) in
    let asked = rw c.if-not-goes_on.true at c.ask_peer-more.ensures.asks in
    fetched_early by _ _ c.loop-at.at _ _ _ _ _ _ _ _ c.index-peers-at.result _ c.loop-at.invariant lt c.index-peers-at.is asked

pub loop-at-preserved : goal.loop-at-preserved
loop-at-preserved g c =
    let by = ways g.K.Link.puts g.K.Link.gets g.K.Link.put_fails g.K.Link.get_fails g.K.Link.closes in
    let lt : c.loop-at.at < length c.loop-at.peers = omega (arith, c.loop-at-test.true, c.loop-at.invariant.long) in
    let asked = rw c.if-not-goes_on.false at c.ask_peer-more.ensures.asks in
    fetched_next by _ _ c.loop-at.at _ _ _ _ _ _ _ _ c.index-peers-at.result _ c.loop-at.invariant lt c.index-peers-at.is asked
    c.ask_peer-more.ensures.few c.ask_peer-more.ensures.steps c.ask_peer-more.ensures.stays

pub returns-clause-asks : goal.returns-clause-asks
returns-clause-asks g c =
    let end : length c.loop-at.peers ≤ c.loop-at.at = omega (arith, c.loop-at-test.false, c.loop-at.invariant.long) in
    fetched_all _ _ _ c.loop-at.at _ _ _ _ _ c.loop-at.invariant end

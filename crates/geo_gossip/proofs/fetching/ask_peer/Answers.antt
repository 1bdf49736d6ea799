use Rattle.std.proofs.Common.{arith, ◌<◌, length, refl}
use Rattle.geo_gossip.specs.Fetching.{ways}
use Rattle.geo_gossip.proofs.Asking.{goes_first, goes_filled, goes_lacked, few_done, asks_silent}
use Rattle.geo_gossip.proofs.fetching.ask_peer.Goals as goal

pub loop-at-init : goal.loop-at-init
loop-at-init g c = goes_first _ _ _ _ _

pub loop-at-preserved-in-Ok-Some : goal.loop-at-preserved-in-Ok-Some
loop-at-preserved-in-Ok-Some g c =
    let by = ways g.K.Link.puts g.K.Link.gets g.K.Link.put_fails g.K.Link.get_fails g.K.Link.closes in
    let lt : c.loop-at.at < length c.loop-at.sought.items = omega (arith, c.loop-at-test.true, c.len.ensures) in
    let told = rw c.in-Ok-Some.field-0-is at c.in-Ok-Some.ensures.told in
    let more = rw c.in-Ok-Some.field-0-is at c.in-Ok-Some.ensures.steps in
    goes_filled by c.args.peer.now.site _ _ _ _ _ _ _ _ _ _ c.index.result.now c.in-Ok-Some.filled c.loop-at.invariant lt c.index.ensures told (few_done c.in-Ok-Some.filled) more c.tried.ensures.stays _ _ c.remove-offered.ensures.items c.counted-done.ensures

-- the same, where the key that is let go was long
pub loop-at-preserved-in-Ok-Some-2 : goal.loop-at-preserved-in-Ok-Some-2
loop-at-preserved-in-Ok-Some-2 g c =
    let by = ways g.K.Link.puts g.K.Link.gets g.K.Link.put_fails g.K.Link.get_fails g.K.Link.closes in
    let lt : c.loop-at.at < length c.loop-at.sought.items = omega (arith, c.loop-at-test.true, c.len.ensures) in
    let told = rw c.in-Ok-Some.field-0-is at c.in-Ok-Some.ensures.told in
    let more = rw c.in-Ok-Some.field-0-is at c.in-Ok-Some.ensures.steps in
    goes_filled by c.args.peer.now.site _ _ _ _ _ _ _ _ _ _ c.index.result.now c.in-Ok-Some.filled c.loop-at.invariant lt c.index.ensures told (few_done c.in-Ok-Some.filled) more c.tried.ensures.stays _ _ c.remove-offered.ensures.items c.counted-done.ensures

pub loop-at-preserved : goal.loop-at-preserved
loop-at-preserved g c =
    let lt : c.loop-at.at < length c.loop-at.sought.items = omega (arith, c.loop-at-test.true, c.len.ensures) in
    let told = rw c.in-Ok-None.field-0-is at c.in-Ok-None.ensures.told in
    goes_lacked _ c.args.peer.now.site _ _ _ _ _ _ _ _ _ _ c.index.result.now c.loop-at.invariant lt c.index.ensures told told.1

pub returns-in-Err-Left-clause-asks : goal.returns-in-Err-Left-clause-asks
returns-in-Err-Left-clause-asks g c =
    let lt : c.loop-at.at < length c.loop-at.sought.items = omega (arith, c.loop-at-test.true, c.len.ensures) in
    let silent = rw c.in-Err-Left.field-0-is at c.in-Err-Left.ensures.silent in
    asks_silent _ _ _ _ _ _ _ _ _ _ _ c.index.result.now _ c.loop-at.invariant lt c.index.ensures refl silent.1 silent.0

pub returns-in-Err-Ended-clause-asks : goal.returns-in-Err-Ended-clause-asks
returns-in-Err-Ended-clause-asks g c =
    let lt : c.loop-at.at < length c.loop-at.sought.items = omega (arith, c.loop-at-test.true, c.len.ensures) in
    let silent = rw c.in-Err-Ended.field-0-is at c.in-Err-Ended.ensures.silent in
    asks_silent _ _ _ _ _ _ _ _ _ _ _ c.index.result.now _ c.loop-at.invariant lt c.index.ensures refl silent.1 silent.0

use Rattle.std.proofs.Common.{arith, ◌≡◌, ℕ, ◌+◌, ◌<◌, ◌≤◌, refl, sym, ap, ◌∙◌, cond, length}
use Rattle.std.proofs.Math.ListN.{set}
use Rattle.std.proofs.lemmas.List.{length-take}
use Rattle.geo_gossip.specs.Rounds.{ServedAll}
use Rattle.geo_gossip.proofs.Going.{Goes, goes_on, served_few}
use Rattle.geo_gossip.proofs.rounds.round.Goals as goal
use Rattle.geo_gossip.proofs.rounds.round.Goals.{then-branch, else-branch}

pub loop-at-init : goal.loop-at-init
unfolding ServedAll
loop-at-init g c = record { long = refl; done = (refl, refl); rest = refl }

pub overflow_add-count : goal.overflow_add-count
overflow_add-count g c =
    let few : c.loop-at.count ≤ c.loop-at.at = omega (arith, served_few _ _ _ _ _ _ _ c.loop-at.invariant.done, length-take c.loop-at.at c.args.peers.now) in
    record { fits = omega (arith, few, c.loop-at-test.true, c.loop-at.auto.at-end) }

pub loop-at-preserved : goal.loop-at-preserved
loop-at-preserved g c =
    let lt : c.loop-at.at < length c.loop-at.peers = omega (arith, c.loop-at-test.true, c.loop-at.invariant.long) in
    let going : (n : ℕ) → n ≡ c.loop-at.count + cond c.in_ok-serve.field-0 1 0 → Goes g.K.Link.puts g.K.Link.put_fails c.args.peers.now (set c.loop-at.peers c.loop-at.at c.serve.new.peer) c.args.seat.now (c.loop-at.at + 1) c.serve.new.seat n
    = λ n e. goes_on g.K.Link.puts g.K.Link.put_fails _ _ _ _ _ _ _ n c.in_ok-serve.field-0 c.index-peers-at.result c.serve.new.peer e c.loop-at.invariant lt c.index-peers-at.is c.in_ok-serve.ensures.served in
    elim c.if-branch.branch [
      | then-branch w ↦ going _ (w.count-is ∙ ap (λ b. c.loop-at.count + cond b 1 0) (sym w.if-branch.true))
      | else-branch w ↦ going _ (w.count-is ∙ omega (arith, ap (λ b. c.loop-at.count + cond b 1 0) w.if-branch.false))
    ]

use Rattle.std.proofs.Common.{refl}
use Rattle.geo_plain.specs.declared.knowledge.Knowledge.{Knowledge}
use Rattle.geo_plain.proofs.Knowing.{knows_dropped}
use Rattle.geo_plain.proofs.knowledge.Knowledge.evict.Goals as goal

pub returns-clause-left : goal.returns-clause-left
returns-clause-left c =
    let old = c.args.self.now in
    let new : Knowledge = record { ops = old.ops; changes = c.push.new.self; hits = old.hits; misses = old.misses; evictions = c.saturating_add-self.result; waiting = old.waiting; reap_after = old.reap_after; retired = old.retired } in
    knows_dropped old new c.in_ok-key.key c.args.key.now c.in_ok-key.ensures refl c.in_ok-push.ensures.items

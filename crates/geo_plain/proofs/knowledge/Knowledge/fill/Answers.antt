use Rattle.std.proofs.Common.{refl}
use Rattle.geo_plain.specs.declared.knowledge.Knowledge.{Knowledge}
use Rattle.geo_plain.proofs.Knowing.{knows_filled}
use Rattle.geo_plain.proofs.knowledge.Knowledge.fill.Goals as goal

pub returns-clause-held : goal.returns-clause-held
returns-clause-held c =
    let old = c.args.self.now in
    let new : Knowledge = record { ops = old.ops; changes = c.push.new.self; hits = old.hits; misses = old.misses; evictions = old.evictions; waiting = old.waiting; reap_after = old.reap_after; retired = old.retired } in
    knows_filled old new c.in_ok-key.key c.args.key.now c.in_ok-bytes.bytes c.args.bytes.now c.in_ok-key.ensures c.in_ok-bytes.ensures refl c.in_ok-push.ensures.items

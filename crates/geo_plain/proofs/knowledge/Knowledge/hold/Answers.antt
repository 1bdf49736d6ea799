use Rattle.std.proofs.Common.{refl, sym, subst}
use Rattle.geo_site.specs.Machine.{act_held}
use Rattle.geo_plain.specs.declared.operation.Act.{Act}
use Rattle.geo_plain.specs.declared.knowledge.Knowledge.{Knowledge}
use Rattle.geo_plain.specs.Plain.{act_of, Knows}
use Rattle.geo_plain.proofs.Knowing.{knows_wrote}
use Rattle.geo_plain.proofs.knowledge.Knowledge.hold.Goals as goal

pub returns-in_ok-push-clause-held : goal.returns-in_ok-push-clause-held
returns-in_ok-push-clause-held c = λ ops held k.
    let new : Knowledge = record { ops = c.args.self.now.ops; changes = c.push.new.self; hits = c.args.self.now.hits; misses = c.args.self.now.misses; evictions = c.args.self.now.evictions; waiting = c.args.self.now.waiting; reap_after = c.args.self.now.reap_after; retired = c.args.self.now.retired } in
    subst (λ (a : Act). Knows new ops (act_held (act_of a) held)) (sym c.in-Write.is)
    (knows_wrote c.args.self.now new c.in-Write.written c.in_ok-key.key c.in_ok-bytes.bytes c.in_ok-key.ensures c.in_ok-bytes.ensures refl c.in_ok-push.ensures.items ops held k)

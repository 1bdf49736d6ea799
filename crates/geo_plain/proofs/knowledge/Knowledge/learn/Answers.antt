use Rattle.std.proofs.Common.{◌++◌, refl}
use Rattle.geo_plain.specs.declared.knowledge.Knowledge.{Knowledge}
use Rattle.geo_plain.specs.Plain.{operations_of}
use Rattle.geo_plain.proofs.Knowing.{knows_learned}
use Rattle.geo_plain.proofs.knowledge.Knowledge.learn.Goals as goal

pub returns-clause-learned : goal.returns-clause-learned
returns-clause-learned c = λ ops held k.
    let between : Knowledge = record { ops = c.add_copies.new.to; changes = c.args.self.now.changes; hits = c.args.self.now.hits; misses = c.args.self.now.misses; evictions = c.args.self.now.evictions; waiting = c.args.self.now.waiting; reap_after = c.args.self.now.reap_after; retired = c.args.self.now.retired } in
    c.in_ok-settle.ensures.settles (ops ++ operations_of c.args.known.now) held (knows_learned c.args.self.now between c.args.known.now c.in_ok-add_copies.ensures refl ops held k)

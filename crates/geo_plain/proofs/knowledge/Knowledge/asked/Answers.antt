use Rattle.std.proofs.Common.{sym, subst}
use Rattle.geo_memcache.specs.declared.decision.Decision.{Decision}
use Rattle.geo_site.specs.Changes.{bytes_in, IsShort}
use Rattle.geo_site.proofs.Acting.{decided_short}
use Rattle.geo_plain.specs.Plain.{shown}
use Rattle.geo_plain.proofs.knowledge.Knowledge.asked.Goals as goal

pub acts_on-requires : goal.acts_on-requires
acts_on-requires c = record {
  short = subst (λ (d : Decision). IsShort d.effect (bytes_in c.args.ask.now)) (sym c.in_ok-decision.ensures) (decided_short (shown c.args.self.now c.args.now c.args.key.now) c.args.now c.args.ask.now c.requires.change);
}

use Rattle.std.proofs.Common.{refl, ◌∙◌}
use Rattle.geo_plain.proofs.Knowing.{knows_settled}
use Rattle.geo_plain.proofs.knowledge.Knowledge.settle.Goals as goal

pub returns-clause-settles : goal.returns-clause-settles
returns-clause-settles c = knows_settled c.args.self.now (record { ops = c.args.self.now.ops; changes = c.push.new.self; hits = c.args.self.now.hits; misses = c.args.self.now.misses; evictions = c.args.self.now.evictions; waiting = c.args.self.now.waiting; reap_after = c.args.self.now.reap_after; retired = c.args.self.now.retired }) c.in_ok-known.known (c.in_ok-known.ensures ∙ c.as_slice.ensures.value) refl c.in_ok-push.ensures.items

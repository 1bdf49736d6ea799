use Rattle.geo_history.proofs.Logging.{unlogged_more}
use Rattle.geo_history.proofs.log.Log.push.Goals as goal

pub invariant_of-self : goal.invariant_of-self
invariant_of-self c = unlogged_more c.self.inside.steps.items c.self.inside.bytes c.self.inside.unlogged c.in-Some.unlogged _ c.args.step c.in-Some.is c.self.invariant c.and-unlogged.ensures c.keep.ensures

use Rattle.geo_site.proofs.Calls.{tick_steps}
use Rattle.geo_site.proofs.site.Site.tick.Goals as goal

pub returns-clause-step : goal.returns-clause-step
returns-clause-step c = tick_steps c.args.self.now c.flush_due.new.self c.args.now c.flush_due.result c.flush_due.ensures

use Rattle.geo_site.proofs.Calls.{act_steps}
use Rattle.geo_site.proofs.site.Site.act_full.Goals as goal

pub returns-clause-step : goal.returns-clause-step
returns-clause-step c = act_steps c.args.self.now c.act_by.new.self c.args.now c.args.request.now c.args.with_copies c.act_by.result c.act_by.ensures.does

use Rattle.geo_site.proofs.Calls.{fill_steps}
use Rattle.geo_site.proofs.site.Site.fill.Goals as goal

pub returns-clause-step : goal.returns-clause-step
returns-clause-step c = fill_steps c.args.self.now c.admit.new.self c.args.key.now c.args.blob.now c.admit.result c.admit.ensures.does

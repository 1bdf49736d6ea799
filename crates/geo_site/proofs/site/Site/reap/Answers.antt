use Rattle.geo_site.proofs.Calls.{reap_steps}
use Rattle.geo_site.proofs.site.Site.reap.Goals as goal

pub returns-clause-step : goal.returns-clause-step
returns-clause-step c = reap_steps c.args.self.now c.delete_ended.new.self c.args.now c.args.key.now c.delete_ended.result c.delete_ended.ensures

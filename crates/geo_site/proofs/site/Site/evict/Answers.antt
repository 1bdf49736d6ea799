use Rattle.geo_site.proofs.Leading.{evict_leads}
use Rattle.geo_site.proofs.site.Site.evict.Goals as goal

pub returns-clause-step : goal.returns-clause-step
returns-clause-step c = evict_leads c.args.self.now c.drop_held.new.self c.args.key.now c.drop_held.result c.drop_held.ensures

use Rattle.geo_site.proofs.Calls.{send_steps}
use Rattle.geo_site.proofs.site.Site.send.Goals as goal

pub returns-clause-step : goal.returns-clause-step
returns-clause-step c = send_steps c.args.self.now c.args.to c.parcel_for.result c.parcel_for.ensures

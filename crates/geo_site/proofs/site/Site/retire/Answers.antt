use Rattle.geo_site.proofs.Calls.{retire_steps}
use Rattle.geo_site.proofs.site.Site.retire.Goals as goal

pub returns-clause-step : goal.returns-clause-step
returns-clause-step c = retire_steps c.args.self.now c.hold_for_gone.new.self c.args.other c.hold_for_gone.result c.hold_for_gone.ensures.does c.hold_for_gone.ensures.rests

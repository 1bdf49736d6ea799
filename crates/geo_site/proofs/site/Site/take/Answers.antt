use Rattle.std.proofs.Common.{subst}
use Rattle.geo_site.specs.Machine.{IsHeldCount}
use Rattle.geo_site.specs.Sites.{state_in}
use Rattle.geo_site.proofs.Calls.{take_steps}
use Rattle.geo_site.proofs.site.Site.take.Goals as goal

pub returns-clause-step : goal.returns-clause-step
returns-clause-step c =
    let old = c.args.self.now in
    let new = c.take_in-result.new.self in
    take_steps old new c.args.parcel c.take_in-result.result c.take_in-result.ensures.does c.take_in-result.ensures.rests
    (subst (λ n. IsHeldCount (state_in old).stock.held n) c.items-before.ensures.count c.items-before.ensures.held)
    (subst (λ n. IsHeldCount (state_in new).stock.held n) c.items-after.ensures.count c.items-after.ensures.held)

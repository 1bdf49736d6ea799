use Rattle.std.proofs.Common.{subst}
use Rattle.geo_site.specs.Machine.{IsRecordCount}
use Rattle.geo_site.specs.Sites.{state_in}
use Rattle.geo_site.proofs.Leading.{remove_leads}
use Rattle.geo_site.proofs.site.Site.remove.Goals as goal

pub returns-clause-step : goal.returns-clause-step
returns-clause-step c =
    let old = c.args.self.now in
    let new = c.drop_known-count.new.self in
    remove_leads old new c.drop_known-count.result c.drop_known-count.ensures
    (subst (λ n. IsRecordCount (state_in old).map n) c.records-before.ensures.count c.records-before.ensures.records)
    (subst (λ n. IsRecordCount (state_in new).map n) c.records-after.ensures.count c.records-after.ensures.records)

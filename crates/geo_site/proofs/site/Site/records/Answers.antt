use Rattle.geo_versions.specs.Maps.{keys_in}
use Rattle.std.proofs.Common.{sym}
use Rattle.geo_site.proofs.site.Site.records.Goals as goal

pub returns-clause-records : goal.returns-clause-records
returns-clause-records c = record { keys = keys_in c.args.self.now.versions; many = sym c.len.ensures.len; apart = c.len.ensures.apart; those = c.len.ensures.kept }

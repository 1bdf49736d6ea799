use Rattle.std.proofs.Common.{sym}
use Rattle.geo_values.specs.Held.{keys_in}
use Rattle.geo_site.proofs.site.Site.items.Goals as goal

pub returns-clause-held : goal.returns-clause-held
returns-clause-held c = record { keys = keys_in c.args.self.now.values; many = sym c.len.ensures.len; apart = c.len.ensures.apart; those = c.len.ensures.held }

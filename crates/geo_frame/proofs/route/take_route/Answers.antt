use Rattle.std.proofs.Common.{sym}
use Rattle.geo_frame.proofs.Within.{sites_most}
use Rattle.geo_frame.proofs.route.take_route.Goals as goal

pub returns-clause-most : goal.returns-clause-most
returns-clause-most c = sites_most c.in_ok-from.from c.in_ok-to.to c.in_ok-sites.sites (sym c.if-not-sites_fit.ensures)

use Rattle.std.proofs.Common.{arith}
use Rattle.geo_station.proofs.Lasts.{some_last, none_last}
use Rattle.geo_station.proofs.fits.last_of.Goals as goal

pub returns-clause-some : goal.returns-clause-some
returns-clause-some c = some_last c.args.steps.now.items c.args.count c.get.result (omega (arith, c.if-count-eq0.false)) c.get.ensures

pub returns-clause-none : goal.returns-clause-none
returns-clause-none c = none_last c.args.steps.now.items c.args.count c.get.result c.requires (omega (arith, c.if-count-eq0.false)) c.get.ensures

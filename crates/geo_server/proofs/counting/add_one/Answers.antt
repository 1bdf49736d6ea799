use Rattle.geo_server.proofs.Sums.{counts_one}
use Rattle.geo_server.proofs.counting.add_one.Goals as goal

pub returns : goal.returns
returns g c = counts_one c.args.counter _ _ c.count.ensures.counts

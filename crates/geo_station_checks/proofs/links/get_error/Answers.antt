use Rattle.geo_link.proofs.Counting.{tally_stays}
use Rattle.geo_station_checks.proofs.links.get_error.Goals as goal

pub returns : goal.returns
returns g c = tally_stays c.get.result _ _ c.args.link.now.seat c.get.new.self.seat c.get.ensures.ok c.get.ensures.err

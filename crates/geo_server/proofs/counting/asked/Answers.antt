use Rattle.geo_session.specs.Seats.{Asker, asker}
use Rattle.geo_server.specs.Moments.{IsMoment}
use Rattle.geo_server.proofs.Sums.{tally_kept}
use Rattle.geo_server.proofs.counting.asked.Goals as goal

pub returns : goal.returns
returns g c =
    let was : Asker = asker c.args.counted.now.seat c.args.counted.now.last c.args.counted.now.counts in
    let is : Asker = asker c.act_by.new.self.seat c.act_by.new.self.last c.act_by.new.self.counts in
    record {
      some = c.act_by.ensures.some;
      none = c.act_by.ensures.none;
      tally = tally_kept IsMoment c.act_by.result c.args.request was is c.act_by.ensures.some c.act_by.ensures.none;
    }

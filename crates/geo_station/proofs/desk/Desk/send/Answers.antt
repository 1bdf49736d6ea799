use Rattle.geo_history.specs.Stories.{story_in}
use Rattle.geo_station.proofs.Stepping.{adds_parcels}
use Rattle.geo_station.proofs.desk.Desk.send.Goals as goal

pub returns-clause-adds : goal.returns-clause-adds
returns-clause-adds g c =
    let done = c.send_in_era-outcome in
    adds_parcels (story_in done.new.self.kept) c.args.self.now.journal done.new.self.journal c.args.account.now.mark done.new.account.mark c.args.to done.result done.new.self.whole done.ensures.noted

use Rattle.geo_history.specs.Stories.{story_in}
use Rattle.geo_station.proofs.Stepping.{adds_take}
use Rattle.geo_station.proofs.desk.Desk.take.Goals as goal

pub returns-clause-adds : goal.returns-clause-adds
returns-clause-adds g c =
    let done = c.take_in_era-outcome in
    adds_take (story_in done.new.self.kept) c.args.self.now.journal done.new.self.journal c.args.account.now.mark done.new.account.mark c.args.parcel done.result done.new.self.whole done.ensures.noted

use Rattle.geo_history.specs.Stories.{story_in}
use Rattle.geo_station.proofs.Stepping.{adds_care}
use Rattle.geo_station.proofs.desk.Desk.maintain.Goals as goal

pub returns-clause-adds : goal.returns-clause-adds
returns-clause-adds g c =
    let done = c.maintain_in_era-outcome in
    adds_care (story_in done.new.self.kept) c.args.self.now.journal done.new.self.journal c.args.account.now.mark done.new.account.mark done.new.self.whole done.ensures.noted

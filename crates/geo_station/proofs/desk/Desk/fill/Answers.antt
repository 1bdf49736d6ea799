use Rattle.geo_history.specs.Stories.{story_in}
use Rattle.geo_station.proofs.Stepping.{adds_fill}
use Rattle.geo_station.proofs.desk.Desk.fill.Goals as goal

pub returns-clause-adds : goal.returns-clause-adds
returns-clause-adds g c =
    let done = c.fill_in_era-outcome in
    adds_fill (story_in done.new.self.kept) c.args.self.now.journal done.new.self.journal c.args.account.now.mark done.new.account.mark c.args.key.now c.args.bytes done.result done.new.self.whole done.ensures.noted

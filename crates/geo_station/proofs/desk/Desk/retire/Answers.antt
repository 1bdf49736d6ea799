use Rattle.std.proofs.Common.{rules}
use Rattle.geo_station.proofs.Receiving.{retired_once}
use Rattle.geo_history.specs.Stories.{story_in}
use Rattle.geo_station.proofs.Stepping.{adds_retire}
use Rattle.geo_station.proofs.desk.Desk.retire.Goals as goal

pub returns-clause-does : goal.returns-clause-does
returns-clause-does g c = retired_once _ _ _ _ _ (search rules) c.retire_in_era-outcome.ensures.does

pub returns-clause-adds : goal.returns-clause-adds
returns-clause-adds g c =
    let done = c.retire_in_era-outcome in
    adds_retire (story_in done.new.self.kept) c.args.self.now.journal done.new.self.journal c.args.account.now.mark done.new.account.mark c.args.other done.result done.new.self.whole done.ensures.noted

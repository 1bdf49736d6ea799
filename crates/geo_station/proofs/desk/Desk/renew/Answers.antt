use Rattle.geo_history.specs.Stories.{story_in, is_logged}
use Rattle.geo_station.proofs.Closing.{ended_lawful}
use Rattle.geo_station.proofs.Stepping.{era_still}
use Rattle.geo_station.proofs.desk.Desk.renew.Goals as goal

pub invariant_of-self-clause-whole : goal.invariant_of-self-clause-whole
invariant_of-self-clause-whole g c = era_still (is_logged c.args.self.now.kept) (story_in c.args.self.now.kept) (story_in c.new_era.new.self) c.new_era.result c.args.self.now.journal c.new_era.ensures.does c.args.self.now.whole

pub returns-clause-lawful : goal.returns-clause-lawful
returns-clause-lawful g c = ended_lawful (is_logged c.args.self.now.kept) (story_in c.args.self.now.kept) (story_in c.new_era.new.self) c.new_era.result c.new_era.ensures.does

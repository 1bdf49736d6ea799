use Rattle.std.proofs.Common.{sym, subst}
use Rattle.geo_history.specs.Stories.{story_in, is_logged}
use Rattle.geo_station.specs.Eras.{EndsWhereFull}
use Rattle.geo_station.proofs.Closing.{ends_where_full}
use Rattle.geo_station.proofs.Stepping.{era_still}
use Rattle.geo_station.proofs.desk.Desk.end_era.Goals as goal

pub invariant_of-self-clause-whole : goal.invariant_of-self-clause-whole
invariant_of-self-clause-whole g c = era_still (is_logged c.args.self.now.kept) (story_in c.args.self.now.kept) (story_in c.new_era.new.self) c.new_era.result c.args.self.now.journal c.new_era.ensures.does c.args.self.now.whole

pub returns-clause-ends : goal.returns-clause-ends
returns-clause-ends g c =
    subst (EndsWhereFull c.new_era.new.self) (sym c.listed.ensures)
    (ends_where_full c.args.self.now.kept c.new_era.new.self c.new_era.result c.requires.full c.new_era.ensures.does c.new_era.ensures.setup c.new_era.ensures.told)

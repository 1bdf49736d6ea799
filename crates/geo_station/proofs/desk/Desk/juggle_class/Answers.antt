use Rattle.std.proofs.Common.{◌∙◌}
use Rattle.geo_history.specs.Stories.{story_in}
use Rattle.geo_station.proofs.Stepping.{juggle_still}
use Rattle.geo_station.proofs.desk.Desk.juggle_class.Goals as goal

pub invariant_of-self-clause-whole : goal.invariant_of-self-clause-whole
invariant_of-self-clause-whole g c = juggle_still (story_in c.loop-count.self.kept) (story_in c.juggle.new.self) c.args.class c.juggle.result c.loop-count.self.journal c.juggle.ensures.does c.loop-count.self.whole

use Rattle.geo_site.proofs.Calls.{juggle_stands}
use Rattle.geo_site.proofs.site.Site.juggle.Goals as goal

pub returns-clause-stands : goal.returns-clause-stands
returns-clause-stands c = juggle_stands c.args.self.now c.move_one.new.self c.args.class c.move_one.result c.move_one.ensures.does c.move_one.ensures.rests c.move_one.ensures.stays

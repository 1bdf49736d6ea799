use Rattle.geo_site.proofs.site.Site.act.Goals as goal

pub returns-in-Ok : goal.returns-in-Ok
returns-in-Ok c = record { does = c.in-Ok.ensures.does.does }

pub returns-in-Err : goal.returns-in-Err
returns-in-Err c = record { does = c.in-Err.ensures.does }

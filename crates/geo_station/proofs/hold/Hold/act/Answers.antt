use Rattle.std.proofs.Common.{rules, refl, inl, inr, ap}
use Rattle.geo_station.proofs.Stepping.{told_adds}
use Rattle.geo_station.proofs.Receiving.{is_answer}
use Rattle.geo_station.proofs.hold.Hold.act.Goals as goal

pub returns-in-Ok-clause-answered : goal.returns-in-Ok-clause-answered
returns-in-Ok-clause-answered g c = inr (is_answer _ _ _ _ _ _ _ _ (ap (λ s. s.mark.number) c.seat.view_is) refl c.in-Ok.ensures.equal c.in-Ok.ensures.does)

pub returns-in-Ok-clause-adds : goal.returns-in-Ok-clause-adds
returns-in-Ok-clause-adds g c = told_adds _ _ _ _ _ _ _ (c.in-Ok.reply, c.in-Ok.field-0-1) (search rules) (search rules) (search rules) c.in-Ok.ensures.adds

use Rattle.std.proofs.Common.{rules, refl, inl, inr, ap}
use Rattle.geo_station.proofs.Stepping.{told_adds}
use Rattle.geo_station.proofs.Receiving.{is_answer}
use Rattle.geo_station.proofs.Closing.{flushed_none}
use Rattle.geo_station.proofs.station.Station.act.Goals.{in_default-via-in-Ok+in_default, in_default-via-in_default}
use Rattle.geo_station.proofs.station.Station.act.Goals as goal

pub returns-in_default-clause-acts : goal.returns-in_default-clause-acts
returns-in_default-clause-acts g c = inr (
  refl,
  elim c.in_default.branch [
    | in_default-via-in-Ok+in_default w ↦ flushed_none c.args.seat.now _ (search rules)
    | in_default-via-in_default w ↦ flushed_none c.args.seat.now _ (search rules)
  ],
)

pub returns-in-Ok-clause-answered : goal.returns-in-Ok-clause-answered
returns-in-Ok-clause-answered g c = inr (is_answer _ _ _ _ _ _ _ _ (ap (λ s. s.mark.number) c.seat.view_is) c.know_digest.ensures c.in-Ok.ensures.equal c.in-Ok.ensures.does)

pub returns-in_default-copy-clause-answered : goal.returns-in_default-copy-clause-answered
returns-in_default-copy-clause-answered g c = inr (is_answer _ _ _ _ _ _ _ _ (ap (λ s. s.mark.number) c.seat.view_is) c.know_digest.ensures c.in-Ok.ensures.equal c.in-Ok.ensures.does)

pub returns-in_default-clause-adds : goal.returns-in_default-clause-adds
returns-in_default-clause-adds g c = inl (
  refl,
  elim c.in_default.branch [
    | in_default-via-in-Ok+in_default w ↦ inl (search rules)
    | in_default-via-in_default w ↦ inl (search rules)
  ],
)

pub returns-in-Ok-clause-adds : goal.returns-in-Ok-clause-adds
returns-in-Ok-clause-adds g c = told_adds _ _ _ _ _ _ _ (c.in-Ok.reply, c.in-Ok.kept) (search rules) (search rules) (search rules) c.in-Ok.ensures.adds

pub returns-in_default-copy-clause-adds : goal.returns-in_default-copy-clause-adds
returns-in_default-copy-clause-adds g c = told_adds _ _ _ _ _ _ _ (c.in-Ok.reply, c.in-Ok.kept) (search rules) (search rules) (search rules) c.in-Ok.ensures.adds

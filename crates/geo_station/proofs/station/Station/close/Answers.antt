use Rattle.std.proofs.Common.{Some, sym, subst, ap, ◌∙◌, arith}
use Rattle.std.specs.List.{All}
use Rattle.geo_history.specs.Stories.{story_in}
use Rattle.geo_station.specs.Seats.{FitsIn, DiffersFrom}
use Rattle.geo_station.proofs.Closing.{lawful_of, one_history_of}
use Rattle.geo_station.proofs.station.Station.close.Goals as goal

pub returns-in-Some-clause-differs : goal.returns-in-Some-clause-differs
returns-in-Some-clause-differs g c = λ e.
    let differs = c.open_for.ensures.differs (c.in-Some.is ∙ ap Some e) in
    (omega (arith, c.as_slice.ensures.len, differs.0, c.self.view_is), subst (DiffersFrom (story_in c.into_inner-desk.result.kept)) c.as_slice.ensures.value differs.1)

pub returns-clause-lawful : goal.returns-clause-lawful
returns-clause-lawful g c = lawful_of (story_in c.into_inner-desk.result.kept) c.history.result (c.history.ensures.is c.in_default.ensures.none.0)

pub returns-clause-each : goal.returns-clause-each
returns-clause-each g c =
    let is = c.history.ensures.is c.in_default.ensures.none.0 in
    let story = story_in c.into_inner-desk.result.kept in
    subst (λ opening. All (FitsIn opening c.history.result.steps.items) c.args.seats.items) (sym is.opening)
    (subst (λ steps. All (FitsIn story.opening steps) c.args.seats.items) (sym is.steps)
    (subst (All (FitsIn story.opening story.steps)) c.as_slice.ensures.value c.in_default.ensures.none.2))

pub returns-clause-one : goal.returns-clause-one
returns-clause-one g c =
    let desk = c.into_inner-desk.result in
    one_history_of (story_in desk.kept) desk.journal c.args.seats.items c.history.result.steps.items desk.whole c.merge_all.ensures.agree (c.history.ensures.is c.in_default.ensures.none.0).steps

use Rattle.std.proofs.Common.{[], ap, ◌∙◌}
use Rattle.atomic_table.specs.Table.{Me}
use Rattle.geo_history.specs.declared.step.Step.{Step}
use Rattle.geo_journal.specs.declared.table.View.{View}
use Rattle.geo_journal.specs.Views.{keeper_part}
use Rattle.geo_journal.proofs.Moves.{parts, meets, met_as, checks_as}
use Rattle.geo_journal.proofs.journal.compare.Goals as goal

pub split_seat-whole-requires : goal.split_seat-whole-requires
split_seat-whole-requires c = (c.requires.table.1, c.requires.table.0, parts _ _ (ap (λ (m : Me Step View). m.0.keeps) c.requires.keeper))

pub join_seat-requires : goal.join_seat-requires
join_seat-requires c =
    let split = c.split_seat-whole.ensures in
    let whole = split.4 ∙ ap (λ (m : Me Step View). (keeper_part m.0, [])) c.requires.keeper in
    (c.requires.table.2, split.3 ∙ c.requires.table.1, ap (λ m. m.1) whole, c.requires.table.0, meets _ _ _ _ (ap (λ m. m.0.keeps) whole))

pub load-requires : goal.load-requires
load-requires c =
    let split = c.split_seat-whole.ensures in
    let join = c.join_seat.ensures in
    let whole = split.4 ∙ ap (λ (m : Me Step View). (keeper_part m.0, [])) c.requires.keeper in
    let both = join.2 ∙ met_as _ _ _ _ _ _ _ _ _ c.requires.pass whole in
    (join.0 ∙ c.requires.table.2, c.requires.table.0, checks_as _ _ _ _ _ _ _ _ _ _ _ both)

pub split_seat-requires : goal.split_seat-requires
split_seat-requires c =
    let split = c.split_seat-whole.ensures in
    let join = c.join_seat.ensures in
    let whole = split.4 ∙ ap (λ (m : Me Step View). (keeper_part m.0, [])) c.requires.keeper in
    let both = join.2 ∙ met_as _ _ _ _ _ _ _ _ _ c.requires.pass whole in
    let done = c.load.ensures in
    (done.0 ∙ join.0 ∙ c.requires.table.2, c.requires.table.0, parts _ _ (ap (λ (v : View). v.keeps) done.2.0 ∙ ap (λ (m : Me Step View). m.0.keeps) both))

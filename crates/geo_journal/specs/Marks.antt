-- A journal and the marks of its seats, as contracts see them.
use Rattle.std.specs.Prelude.{◌≡◌, ℕ, ◌+◌, List, [], ◌∷◌, ◌++◌}
use mathlib.Core.List.{IsPrefix}
use Rattle.atomic_table.specs.Seated.{TableId}
use Rattle.geo_history.specs.declared.step.Step.{Step}
use Rattle.geo_history.specs.Replays.{steps_of}
use Rattle.geo_site.specs.declared.setup.Setup.{Setup}
use Rattle.geo_journal.specs.declared.table.Start.{Start}

-- what a site was told at its start
abbrev pub start_of : Setup → Start
start_of setup = record { site = setup.site; sites = setup.sites; limits = record { max_records = setup.max_records; reap_after = setup.reap_after } }

-- an empty history: its table, and from which start it goes
pub record Fresh : Type 0 where
  pub table : TableId
  pub start : Start

-- from which start a history goes, all steps that were ever noted, and how many seats were given
pub record Noted : Type 0 where
  pub start : Start
  pub steps : List Step
  pub given : ℕ

-- a seat: the start that it was told, its number, its steps, in order, and the beginning of the history that it has seen
pub record Marked : Type 0 where
  pub start : Start
  pub number : ℕ
  pub own : List Step
  pub seen : List Step

-- the steps of the seat are just those that the history has of it, and the history begins with all that the seat has seen
pub record Agree (all : Noted) (mark : Marked) : Type 0 where
  pub start : mark.start ≡ all.start
  pub own : mark.own ≡ steps_of mark.number all.steps
  pub seen : IsPrefix mark.seen all.steps

-- a step more, which the seat has then seen with all before it
abbrev pub with_step : Noted → Step → Noted
with_step all step = record all { steps = all.steps ++ step ∷ [] }

abbrev pub marked_with : Noted → Marked → Step → Marked
marked_with all mark step = record mark { own = mark.own ++ step ∷ []; seen = all.steps ++ step ∷ [] }

-- a seat that was not given yet
abbrev pub with_seat : Noted → Noted
with_seat all = record all { given = all.given + 1 }

abbrev pub new_mark : Noted → Marked
new_mark all = record { start = all.start; number = all.given; own = []; seen = [] }

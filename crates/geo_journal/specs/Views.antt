-- What each pass of a history knows.
use Rattle.std.specs.Prelude.{◌≡◌, ℕ, ◌+◌, ◌≤◌, ◌<◌, true, false, List, [], ◌∷◌, ◌++◌}
use mathlib.Core.Option.{Option, none, some}
use mathlib.Core.List.{IsPrefix}
use lib.ListN.{get_elem?}
use Rattle.atomic_table.specs.Seated.{TableId}
use Rattle.atomic_table.specs.Table.{Me, Step as TableStep}
use Rattle.geo_history.specs.declared.step.Step.{Step}
use Rattle.geo_history.specs.Replays.{steps_of}
use Rattle.geo_site.specs.declared.setup.Limits.{Limits}
use Rattle.geo_journal.specs.declared.table.Start.{Start}
use Rattle.geo_journal.specs.declared.table.View.{View}

-- the name of no table
abbrev pub no_table : TableId
no_table = record { words = 0; slots = 0; views_name = 0; atom = 0; block = 0; offset = 0; slot_names = [] }

-- the start of no site
abbrev pub no_start : Start
no_start = record { site = 0; sites = 0; limits = record { max_records = 0; reap_after = 0 } }

-- who knows the whole history, from which start it goes, and how many seats were given
abbrev pub keeper : Start → List Step → ℕ → View
keeper opened all given =
    record { keeps = true; opened = opened; all = all; given = given; sits = false; start = no_start; seat = 0; own = []; seen = [] }

-- who sits on a seat, knows the start and its steps, and has seen a beginning of the history
abbrev pub sitter : Start → ℕ → List Step → List Step → View
sitter start seat own seen =
    record { keeps = false; opened = no_start; all = []; given = 0; sits = true; start = start; seat = seat; own = own; seen = seen }

-- both
abbrev pub holder : Start → List Step → ℕ → Start → ℕ → List Step → List Step → View
holder opened all given start seat own seen =
    record { keeps = true; opened = opened; all = all; given = given; sits = true; start = start; seat = seat; own = own; seen = seen }

abbrev pub nobody : View
nobody = record { keeps = false; opened = no_start; all = []; given = 0; sits = false; start = no_start; seat = 0; own = []; seen = [] }

-- the two parts of a view, and two views put together
abbrev pub seat_part : View → View
seat_part v = record v { keeps = false; opened = no_start; all = []; given = 0 }

abbrev pub keeper_part : View → View
keeper_part v = record v { sits = false; start = no_start; seat = 0; own = []; seen = [] }

abbrev pub met : View → View → View
met v w = record v { keeps = w.keeps; opened = w.opened; all = w.all; given = w.given }

-- a keeper that gives a seat, and who sits on it
abbrev pub giver : View → View
giver v = record v { given = v.given + 1 }

abbrev pub newcomer : View → View
newcomer v = sitter v.opened v.given [] []

-- what the rule says of one view: one pass at most keeps the history, and one at most sits on a seat, whose steps in the history it knows
abbrev pub FitsKeeper : Start → ℕ → List Step → ℕ → ℕ → View → Type 0
FitsKeeper start at log given by v = v.keeps ≡ true → (by ≡ at) × (v.all ≡ log) × (v.given ≡ given) × (v.opened ≡ start)

abbrev pub FitsSeat : Start → (ℕ → ℕ) → List Step → ℕ → ℕ → View → Type 0
FitsSeat start on log given by v = v.sits ≡ true
    → (by ≡ on v.seat) × (v.seat < given) × (v.own ≡ steps_of v.seat log) × IsPrefix v.seen log × (v.start ≡ start)

-- there is one history, and a seat that was not given has no steps in it
pub record IsKept (views : List View) : Type 0 where
  pub start : Start
  pub log : List Step
  pub given : ℕ
  pub at : ℕ
  pub on : ℕ → ℕ
  pub keepers : (by : ℕ) (v : View) → get_elem? views by ≡ some v → FitsKeeper start at log given by v
  pub seats : (by : ℕ) (v : View) → get_elem? views by ≡ some v → FitsSeat start on log given by v
  pub fresh : (seat : ℕ) → given ≤ seat → steps_of seat log ≡ []

-- a step goes into the history, and to those of the seat
abbrev pub appended : View → Option Step → View
appended v none = v
appended v (some s) = record v { all = v.all ++ s ∷ []; own = v.own ++ s ∷ []; seen = v.all ++ s ∷ [] }

-- who keeps the history and sits on a seat knows how they agree
abbrev pub Agrees : View → Type 0
Agrees v = (v.own ≡ steps_of v.seat v.all) × IsPrefix v.seen v.all × (v.start ≡ v.opened)

abbrev pub Appended : TableStep Step → Me Step View → ℕ → Me Step View → Type 0
Appended st m found w = (w.0 ≡ appended m.0 st.said) × (w.1 ≡ m.1) × Agrees m.0

abbrev pub Checked : TableStep Step → Me Step View → ℕ → Me Step View → Type 0
Checked st m found w = (w.0 ≡ m.0) × (w.1 ≡ m.1) × Agrees m.0

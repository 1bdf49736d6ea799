-- The steps of an era, logged or in the proofs alone.
use Rattle.std.specs.Prelude.{◌≡◌, ℕ, ◌-◌, Bool, true, false, cond, List, [], length, map, Option, None, Some, slice_get}
use Rattle.geo_chunks.specs.Chunking.{Chunked}
use Rattle.geo_history.specs.declared.step.Step.{Step}
use Rattle.geo_history.specs.declared.log.Unlogged.{Unlogged}
use Rattle.geo_history.specs.Sizes.{kept_bytes}

-- the steps, for how many more there is room, and whether they are logged
pub record LogView : Type 0 where
  pub items : List Step
  pub room : ℕ
  pub logged : Bool

abbrev pub log_view : Chunked Step → Option Unlogged → LogView
log_view chunks None = record { items = chunks.items; room = chunks.room; logged = true }
log_view chunks (Some other) = record { items = map (λ p. p.1) other.steps.items; room = other.room; logged = false }

-- the steps that are there as data
abbrev pub logged_in : LogView → List Step
logged_in log = cond log.logged log.items []

-- the last of steps, if there is one
abbrev pub last_step : List Step → Option Step
last_step steps = slice_get steps (length steps - 1)

-- those that are logged are counted, and of others the last alone is there as data
abbrev pub IsNone : List Step → Option Unlogged → Type 0
IsNone steps None = Unit {0}
IsNone steps (Some other) = (steps ≡ []) × (other.last ≡ last_step (map (λ p. p.1) other.steps.items))

pub record IsLogged (steps : List Step) (bytes : ℕ) (unlogged : Option Unlogged) : Type 0 where
  pub counted : bytes ≡ kept_bytes steps
  pub none : IsNone steps unlogged

-- When a call ends an era.
use Rattle.std.specs.Prelude.{◌≡◌, ◌⊎◌, true, false, List, [], ◌∷◌, Vec, Option, None, Some, Result, Ok, Err}
use Rattle.std.specs.declared.alloc.AllocError.{AllocError}
use Rattle.std.specs.declared.alloc.Global.{Global}
use Rattle.geo_history.specs.declared.history.History.{History}
use Rattle.geo_history.specs.declared.kept.Kept.{Kept}
use Rattle.geo_history.specs.Sizes.{fills}
use Rattle.geo_history.specs.Stories.{story_in, setup_in, most_bytes_in, is_logged, is_full, last_era}
use Rattle.geo_station.specs.Seats.{IsLawful}

-- a history that ended had filled its era, and the next has no steps; where none ended the era is not full, or is the last, or no step
-- is logged; and where memory was wanted for a new era, the era goes on
pub record EndsFull (kept : Kept) (history : History) : Type 0 where
  pub full : fills (most_bytes_in kept) history.steps.items ≡ true
  pub lawful : IsLawful history
  pub setup : history.setup ≡ setup_in kept
  pub anew : (story_in kept).steps ≡ []

abbrev pub EndsWhereFull : Kept → Result (Option History) AllocError → Type 0
EndsWhereFull kept (Ok (Some history)) = EndsFull kept history
EndsWhereFull kept (Ok None) = (is_full kept ≡ false) ⊎ ((is_logged kept ≡ false) ⊎ ((story_in kept).opening.era ≡ last_era))
EndsWhereFull kept (Err refused) = is_full kept ≡ true

-- of the histories that a call hands out the first, if there is one
abbrev pub first_ended : List History → Option History
first_ended [] = None
first_ended (history ∷ more) = Some history

abbrev pub ended_by : Result (Vec History Global) AllocError → Result (Option History) AllocError
ended_by (Ok histories) = Ok (first_ended histories.items)
ended_by (Err refused) = Err refused

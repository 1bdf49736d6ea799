-- What a site with its history opens with, and what is left of it in the end.
use Rattle.std.specs.Prelude.{◌≡◌, ◌⊎◌, ℕ, ◌+◌, ◌<◌, Bool, true, false, List, [], Option, None, Some, Result, Ok, Err}
use Rattle.std.specs.declared.alloc.AllocError.{AllocError}
use Rattle.geo_site.specs.declared.setup.Setup.{Setup}
use Rattle.geo_site.specs.declared.refusal.SetupError.{SetupError}
use Rattle.geo_site.specs.Sites.{SetupRefuses}
use Rattle.geo_site.specs.States.{IsStateOf}
use Rattle.geo_history.specs.declared.history.History.{History}
use Rattle.geo_history.specs.declared.kept.Kept.{Kept}
use Rattle.geo_history.specs.declared.step.Step.{Step}
use Rattle.geo_history.specs.Logging.{logged_in}
use Rattle.geo_history.specs.Sizes.{fills}
use Rattle.geo_site.specs.Standings.{who_in, who_of}
use Rattle.geo_history.specs.Keeping.{Story, story_of, most_seats, opened_with, opened_total, made_by, made_in_all, IsKept, OpensEmpty}

abbrev pub story_in : Kept → Story
story_in kept = story_of kept.parts

-- what the site was told, and how many bytes the steps of an era may keep, if that was told
abbrev pub setup_in : Kept → Setup
setup_in kept = kept.parts.setup

abbrev pub most_bytes_in : Kept → Option ℕ
most_bytes_in kept = kept.most_bytes

-- whether its steps are logged, and those that are
abbrev pub is_logged : Kept → Bool
is_logged kept = kept.parts.steps.logged

abbrev pub logged_steps : Kept → List Step
logged_steps kept = logged_in kept.parts.steps

abbrev pub StaysTold : Kept → Kept → Type 0
StaysTold old new = (setup_in new ≡ setup_in old) × (most_bytes_in new ≡ most_bytes_in old) × (is_logged new ≡ is_logged old)

-- its logged steps keep as many bytes as they may, or more
abbrev pub is_full : Kept → Bool
is_full kept = fills (most_bytes_in kept) (logged_steps kept)

-- nothing was done at the site yet
abbrev pub IsNew : Kept → Type 0
IsNew kept = OpensEmpty (setup_in kept) (story_in kept)

abbrev pub KeptOpens : Setup → Result Kept SetupError → Type 0
KeptOpens setup (Ok kept) = OpensEmpty setup (story_in kept)
KeptOpens setup (Err why) = SetupRefuses setup why

-- a history that has ended is the one that was kept, and replays
pub record IsHistoryOf (story : Story) (history : History) : Type 0 where
  pub opening : history.opening ≡ story.opening
  pub steps : history.steps.items ≡ story.steps
  pub who : who_of history.setup ≡ who_in story.site
  pub kept : ∥ IsKept story ∥₁

-- a new era opens where the site stands, with what each seat has made, and has no steps
pub record Renews (old new : Story) : Type 0 where
  pub site : new.site ≡ old.site
  pub era : new.opening.era ≡ old.opening.era + 1
  pub state : IsStateOf old.site new.opening.state
  pub counts : (seat : ℕ) → seat < most_seats → opened_with new.opening seat ≡ made_by old seat
  pub total : opened_total new.opening ≡ made_in_all old
  pub steps : new.steps ≡ []

abbrev pub last_era : ℕ
last_era = 4294967295

-- the history up to a new era is handed out; where the last era is reached, or no step is logged, there is none
abbrev pub NewEraDoes : Bool → Story → Story → Result (Option History) AllocError → Type 0
NewEraDoes logged old new (Ok (Some history)) = IsHistoryOf old history × Renews old new × (logged ≡ true)
NewEraDoes logged old new (Ok None) = ((logged ≡ false) ⊎ (old.opening.era ≡ last_era)) × (new ≡ old)
NewEraDoes logged old new (Err refused) = new ≡ old

-- Steps of a site one after the other, and whose they are.
use Rattle.std.specs.Prelude.{◌≡◌, ℕ, ◌+◌, ◌==◌, ◌&&◌, Bool, true, if◌then◌else◌, List, [], ◌∷◌}
use Rattle.geo_site.specs.Standings.{Who, Standing}
use Rattle.geo_site.specs.Steps.{StepsTo}
use Rattle.geo_history.specs.declared.step.Step.{Step}

-- the steps, one after the other, lead from one standing to another
abbrev pub Replays : Who → Standing → List Step → Standing → Type 0
Replays who first [] last = last ≡ first
Replays who first (s ∷ steps) last = (next : Standing) × StepsTo who first s.event s.answer s.victim s.made next
    × Replays who next steps last

-- the steps of one seat, in order
abbrev pub steps_of : ℕ → List Step → List Step
steps_of seat [] = []
steps_of seat (s ∷ steps) = if s.seat == seat then s ∷ steps_of seat steps else steps_of seat steps

-- they are numbered from here on
abbrev pub is_numbered : ℕ → List Step → Bool
is_numbered from [] = true
is_numbered from (s ∷ steps) = (s.number == from) && is_numbered (from + 1) steps

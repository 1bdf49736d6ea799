-- What a seat keeps of its calls, and what a history tells of them.
use Rattle.std.specs.Prelude.{◌≡◌, ◌⊎◌, ℕ, ◌+◌, Bool, true, false, ◌==◌, ◌&&◌, ◌||◌, if◌then◌else◌, List, [], ◌∷◌, ◌++◌, cond, length, nat_le, sum_by}
use Rattle.std.specs.List.{All}
use Rattle.geo_history.specs.declared.history.History.{History}
use Rattle.geo_history.specs.declared.history.Opening.{Opening}
use Rattle.geo_site.specs.declared.event.Event.{Event}
use Rattle.geo_site.specs.declared.event.Event.TheVariants.{Command, Evict, Send, Take, Remove, Tick, Reap, Fill, Retire}
use Rattle.geo_site.specs.declared.event.Answer.{Answer}
use Rattle.geo_history.specs.declared.step.Step.{Step}
use Rattle.geo_site.specs.Standings.{Standing, who_of}
use Rattle.atomic_table.specs.Seated.{TableId}
use Rattle.geo_history.specs.Replays.{steps_of}
use Rattle.geo_history.specs.Keeping.{opened_with, Keeps, Story}
use Rattle.geo_history.specs.Sizes.{answer_bytes, capped, event_bytes, step_size}
use Rattle.geo_journal.specs.Marks.{Noted, Marked, Agree}
use Rattle.geo_station.specs.Wholes.{IsReplayed}
use Rattle.geo_station.specs.declared.call.Call.{Call}

-- how a station that no type stands for yet is to be named: its ledger, which has a part for each seat, and the table of its history
pub record Named : Type 0 where
  pub name : ℕ
  pub parts : ℕ
  pub table : TableId

-- a seat: its mark in the one history, how many steps it made, the calls that it keeps, whether it let go of earlier ones, and whether it
-- keeps any
pub record Seated : Type 0 where
  pub mark : Marked
  pub steps : ℕ
  pub calls : List Call
  pub forgot : Bool
  pub logged : Bool

-- what is kept with one call more
abbrev pub kept_with : Bool → List Call → Call → List Call
kept_with logged calls call = cond logged (calls ++ call ∷ []) calls

-- how many bytes calls keep
abbrev pub call_bytes : Call → ℕ
call_bytes call = step_size + (event_bytes call.event + answer_bytes call.answer)

abbrev pub calls_bytes : List Call → ℕ
calls_bytes calls = capped (sum_by call_bytes calls)

-- a seat that keeps that many calls, or that many bytes of them, lets go of them when it is trimmed
abbrev pub most_kept : ℕ
most_kept = 1024

abbrev pub most_kept_bytes : ℕ
most_kept_bytes = 4194304

abbrev pub is_long : List Call → Bool
is_long calls = nat_le most_kept (length calls) || nat_le most_kept_bytes (calls_bytes calls)

abbrev pub trimmed : Seated → Seated
trimmed seat = if is_long seat.calls then record seat { calls = []; forgot = true } else seat

abbrev pub call_of : Event → Answer → Call
call_of event answer = record { event = event; answer = answer }

-- a seat keeps its requests, its sends and its takes
abbrev pub is_call : Event → Bool
is_call (Command now request) = true
is_call (Evict key) = false
is_call (Send to) = true
is_call (Take parcel) = true
is_call Remove = false
is_call (Tick now) = false
is_call (Reap now key) = false
is_call (Fill key bytes) = false
is_call (Retire other) = false

abbrev pub is_call_of : ℕ → Step → Bool
is_call_of seat s = (s.seat == seat) && is_call s.event

-- those of one seat among steps, in order
abbrev pub calls_of : ℕ → List Step → List Call
calls_of seat [] = []
calls_of seat (s ∷ steps) = if is_call_of seat s then call_of s.event s.answer ∷ calls_of seat steps else calls_of seat steps

-- calls that end with these
abbrev pub EndsWith : List Call → List Call → Type 0
EndsWith all last = (first : List Call) × (all ≡ first ++ last)

-- a history that opens so tells of a seat what it keeps: as many steps as it made, and of the calls that the history has and those that
-- the seat keeps one list ends with the other. A seat that let go of none keeps all that the history has, and in the first era the
-- history has all that the seat keeps.
pub record FitsIn (opening : Opening) (steps : List Step) (seat : Seated) : Type 0 where
  pub count : opened_with opening seat.mark.number + length (steps_of seat.mark.number steps) ≡ seat.steps
  pub ends : EndsWith (calls_of seat.mark.number steps) seat.calls ⊎ EndsWith seat.calls (calls_of seat.mark.number steps)
  pub kept : seat.forgot ≡ false → EndsWith seat.calls (calls_of seat.mark.number steps)
  pub told : opening.era ≡ 0 → EndsWith (calls_of seat.mark.number steps) seat.calls
  pub whole : seat.forgot ≡ false → opening.era ≡ 0 → calls_of seat.mark.number steps ≡ seat.calls

-- a history has a replay: its steps lead from where it opens to where a site can stand, and those of each seat are numbered one
-- after the other
abbrev pub IsLawful : History → Type 0
IsLawful history = ∥ ((last : Standing) × Keeps (who_of history.setup) history.opening history.steps.items last) ∥₁

-- a history does not tell of each seat what the seat keeps
abbrev pub DiffersFrom : Story → List Seated → Type 0
DiffersFrom story seats = All (FitsIn story.opening story.steps) seats → ⊥

-- there is one history, which replays from an empty site and ends with these steps, and of which each seat has just its own
pub record IsOneHistory (steps : List Step) (seats : List Seated) : Type 0 where
  pub all : Noted
  pub before : List Step
  pub replayed : IsReplayed all
  pub ends : all.steps ≡ before ++ steps
  pub each : All (λ s. Agree all s.mark) seats

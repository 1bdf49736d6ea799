-- The one history of a station: all that was done at its site from the start on, through all eras, and what a call adds to it.
use Rattle.std.specs.Prelude.{◌≡◌, ◌⊎◌, ℕ, ◌<◌, ◌==◌, ◌&&◌, Bool, true, false, List, [], ◌∷◌, ◌++◌, length, Option, Some, Result, Ok, Err}
use Rattle.std.specs.declared.alloc.AllocError.{AllocError}
use Rattle.geo_delta.specs.declared.parcel.Parcel.{Parcel}
use Rattle.geo_requests.specs.declared.request.Request.{Request}
use Rattle.geo_requests.specs.declared.reply.Reply.{Reply}
use Rattle.geo_requests.specs.declared.reply.Reply.TheVariants.{OutOfMemory}
use Rattle.geo_site.specs.declared.event.Event.{Event}
use Rattle.geo_site.specs.declared.event.Event.TheVariants.{Command, Evict, Send, Take, Remove, Tick, Reap, Fill, Retire}
use Rattle.geo_site.specs.declared.event.Answer.{Answer}
use Rattle.geo_site.specs.declared.event.Answer.TheVariants.{Replied, Sent, SendRefused, Taken as Took, TakeRefused, Ticked, Filled as FilledAs, Retired, RetireRefused}
use Rattle.geo_site.specs.declared.exchange.Taken.{Taken}
use Rattle.geo_site.specs.declared.fill.Filled.{Filled}
use Rattle.geo_site.specs.declared.refusal.SendError.{SendError}
use Rattle.geo_site.specs.declared.refusal.SendError.TheVariants as sends
use Rattle.geo_site.specs.declared.refusal.TakeError.{TakeError}
use Rattle.geo_site.specs.declared.refusal.TakeError.TheVariants as takes
use Rattle.geo_site.specs.declared.refusal.RetireError.{RetireError}
use Rattle.geo_site.specs.declared.refusal.RetireError.TheVariants as retire
use Rattle.geo_site.specs.Standings.{Who, who_in, Standing, standing_in, nothing_yet}
use Rattle.geo_history.specs.declared.step.Step.{Step}
use Rattle.geo_history.specs.Replays.{Replays, steps_of, is_numbered}
use Rattle.geo_history.specs.Keeping.{Story, most_seats, opened_with}
use Rattle.geo_history.specs.Logging.{last_step}
use Rattle.geo_journal.specs.declared.table.Start.{Start}
use Rattle.geo_journal.specs.Marks.{Noted, Marked, Agree, with_step, marked_with}
use Rattle.geo_station.specs.declared.desk.Unmade.{Unmade}
use Rattle.geo_station.specs.declared.refusal.CallError.{CallError}
use Rattle.geo_station.specs.declared.refusal.CallError.TheVariants.{SeatSpent, Site}
use Rattle.geo_station.specs.declared.refusal.Returned.{Returned}
use Rattle.geo_station.specs.declared.refusal.SeatSpent.{SeatSpent as Spent}

abbrev pub who_at : Start → Who
who_at start = record { number = start.site; limits = start.limits }

-- the steps lead from an empty site to where it stands, and those of each seat are numbered from 1
pub record IsHistory (all : Noted) (last : Standing) : Type 0 where
  pub replays : Replays (who_at all.start) (nothing_yet all.start.sites) all.steps last
  pub numbered : (seat : ℕ) → seat < most_seats → is_numbered 1 (steps_of seat all.steps) ≡ true

abbrev pub IsReplayed : Noted → Type 0
IsReplayed all = ∥ ((last : Standing) × IsHistory all last) ∥₁

-- a site with the steps of an era, and all that was done at it: that ends with these, and each seat had made what lies before
pub record IsWhole (story : Story) (all : Noted) : Type 0 where
  pub who : who_at all.start ≡ who_in story.site
  pub history : IsHistory all (standing_in story.site)
  pub before : List Step
  pub ends : all.steps ≡ before ++ story.steps
  pub counts : (seat : ℕ) → seat < most_seats → opened_with story.opening seat ≡ length (steps_of seat before)

-- the last step is a seat's
abbrev pub IsMadeBy : Story → ℕ → Type 0
IsMadeBy story seat = (s : Step) × (last_step story.steps ≡ Some s) × (s.seat ≡ seat)

-- nothing is noted
abbrev pub NotesNone : Noted → Noted → Marked → Marked → Type 0
NotesNone olds news old new = (news ≡ olds) × (new ≡ old)

-- a step of a seat is: an event, with its answer
pub record NotesOne (olds news : Noted) (old new : Marked) (event : Event) (answer : Answer) : Type 0 where
  pub step : Step
  pub seat : step.seat ≡ old.number
  pub asked : step.event ≡ event
  pub said : step.answer ≡ answer
  pub all : news ≡ with_step olds step
  pub mark : new ≡ marked_with olds old step
  pub agree : Agree olds old

-- a due flush, if there is one
abbrev pub TicksOnce : Bool → Noted → Noted → Marked → Marked → ℕ → Type 0
TicksOnce true olds news old new now = NotesOne olds news old new (Tick now) (Ticked true)
TicksOnce false olds news old new now = NotesNone olds news old new

-- a request with its reply, after a due flush
pub record NotesReply (olds news : Noted) (old new : Marked) (now : ℕ) (request : Request) (reply : Reply) : Type 0 where
  pub flushed : Bool
  pub mid : Noted
  pub between : Marked
  pub flush : TicksOnce flushed olds mid old between now
  pub replies : NotesOne mid news between new (Command now request) (Replied reply)

abbrev pub NotesFlush : Noted → Noted → Marked → Marked → ℕ → Type 0
NotesFlush olds news old new now = (flushed : Bool) × TicksOnce flushed olds news old new now

abbrev pub NotesAnswer : Noted → Noted → Marked → Marked → ℕ → Request → Result (Reply × Reply) Unmade → Type 0
NotesAnswer olds news old new now request (Ok replies) = NotesReply olds news old new now request replies.0
NotesAnswer olds news old new now request (Err why) = NotesFlush olds news old new now

-- a parcel that is made, or why none is
abbrev pub NotesUnsent : Noted → Noted → Marked → Marked → ℕ → CallError SendError → Type 0
NotesUnsent olds news old new to SeatSpent = NotesNone olds news old new
NotesUnsent olds news old new to (Site sends.Memory) = NotesNone olds news old new
NotesUnsent olds news old new to (Site why) = NotesOne olds news old new (Send to) (SendRefused why)

abbrev pub NotesSend : Noted → Noted → Marked → Marked → ℕ → Result (Parcel × Parcel) (CallError SendError) → Type 0
NotesSend olds news old new to (Ok parcels) = NotesOne olds news old new (Send to) (Sent parcels.0)
NotesSend olds news old new to (Err why) = NotesUnsent olds news old new to why

-- one that is taken, or why it is not
abbrev pub NotesUntaken : Noted → Noted → Marked → Marked → Parcel → CallError TakeError → Type 0
NotesUntaken olds news old new parcel SeatSpent = NotesNone olds news old new
NotesUntaken olds news old new parcel (Site takes.Memory) = NotesNone olds news old new
NotesUntaken olds news old new parcel (Site why) = NotesOne olds news old new (Take parcel) (TakeRefused why)

abbrev pub NotesTake : Noted → Noted → Marked → Marked → Parcel → Result Taken Returned → Type 0
NotesTake olds news old new parcel (Ok taken) = NotesOne olds news old new (Take parcel) (Took taken)
NotesTake olds news old new parcel (Err returned) = NotesUntaken olds news old new parcel returned.why

-- bytes that are offered
abbrev pub NotesFill : Noted → Noted → Marked → Marked → List ℕ → List ℕ → Result Filled (CallError AllocError) → Type 0
NotesFill olds news old new key bytes (Ok filled) = NotesOne olds news old new (Fill key bytes) (FilledAs filled)
NotesFill olds news old new key bytes (Err why) = NotesNone olds news old new

-- a site that is held for gone, or why it is not
abbrev pub NotesUnretired : Noted → Noted → Marked → Marked → ℕ → CallError RetireError → Type 0
NotesUnretired olds news old new other SeatSpent = NotesNone olds news old new
NotesUnretired olds news old new other (Site retire.Memory) = NotesNone olds news old new
NotesUnretired olds news old new other (Site why) = NotesOne olds news old new (Retire other) (RetireRefused why)

abbrev pub NotesRetire : Noted → Noted → Marked → Marked → ℕ → Result Bool (CallError RetireError) → Type 0
NotesRetire olds news old new other (Ok fresh) = NotesOne olds news old new (Retire other) (Retired fresh)
NotesRetire olds news old new other (Err why) = NotesUnretired olds news old new other why

-- what a site needs from time to time
abbrev pub is_care : Event → Bool
is_care (Command now request) = false
is_care (Evict key) = false
is_care (Send to) = false
is_care (Take parcel) = false
is_care Remove = true
is_care (Tick now) = true
is_care (Reap now key) = true
is_care (Fill key bytes) = false
is_care (Retire other) = false

abbrev pub all_care : ℕ → List Step → Bool
all_care seat [] = true
all_care seat (s ∷ steps) = (s.seat == seat) && is_care s.event && all_care seat steps

-- some steps of a seat, all of them such care
pub record NotesCare (olds news : Noted) (old new : Marked) : Type 0 where
  pub more : List Step
  pub care : all_care old.number more ≡ true
  pub all : news ≡ record olds { steps = olds.steps ++ more }
  pub mark : ((more ≡ []) × (new ≡ old)) ⊎ (Agree olds old × (new ≡ record old { own = old.own ++ more; seen = olds.steps ++ more }))

-- so the one history goes on, which replays
abbrev pub Within : (Noted → Noted → Type 0) → Type 0
Within does = (olds : Noted) × (news : Noted) × does olds news × IsReplayed news

-- ---- what a call of a station adds
abbrev pub Adds : Marked → Marked → Event → Answer → Type 0
Adds old new event answer = Within (λ olds news. NotesOne olds news old new event answer)

-- a due flush, or nothing
abbrev pub AddsFlush : Marked → Marked → ℕ → Type 0
AddsFlush old new now = (new ≡ old) ⊎ Adds old new (Tick now) (Ticked true)

-- a request with its reply, after a due flush; want of memory is told where the request was not carried out
abbrev pub AddsReply : Marked → Marked → ℕ → Request → Result Reply Spent → Type 0
AddsReply old new now request (Ok reply) =
    ((reply ≡ OutOfMemory) × AddsFlush old new now) ⊎ Within (λ olds news. NotesReply olds news old new now request reply)
AddsReply old new now request (Err spent) = AddsFlush old new now

-- the same of what a desk hands out, whose replies and parcels are two
abbrev pub AddsAnswer : Marked → Marked → ℕ → Request → Result (Reply × Reply) Unmade → Type 0
AddsAnswer old new now request (Ok replies) = Within (λ olds news. NotesReply olds news old new now request replies.0)
AddsAnswer old new now request (Err why) = AddsFlush old new now

abbrev pub AddsUnsent : Marked → Marked → ℕ → CallError SendError → Type 0
AddsUnsent old new to SeatSpent = new ≡ old
AddsUnsent old new to (Site sends.Memory) = new ≡ old
AddsUnsent old new to (Site why) = Adds old new (Send to) (SendRefused why)

abbrev pub AddsSend : Marked → Marked → ℕ → Result Parcel (CallError SendError) → Type 0
AddsSend old new to (Ok parcel) = Adds old new (Send to) (Sent parcel)
AddsSend old new to (Err why) = AddsUnsent old new to why

abbrev pub AddsParcels : Marked → Marked → ℕ → Result (Parcel × Parcel) (CallError SendError) → Type 0
AddsParcels old new to (Ok parcels) = Adds old new (Send to) (Sent parcels.0)
AddsParcels old new to (Err why) = AddsUnsent old new to why

abbrev pub AddsUntaken : Marked → Marked → Parcel → CallError TakeError → Type 0
AddsUntaken old new parcel SeatSpent = new ≡ old
AddsUntaken old new parcel (Site takes.Memory) = new ≡ old
AddsUntaken old new parcel (Site why) = Adds old new (Take parcel) (TakeRefused why)

abbrev pub AddsTake : Marked → Marked → Parcel → Result Taken Returned → Type 0
AddsTake old new parcel (Ok taken) = Adds old new (Take parcel) (Took taken)
AddsTake old new parcel (Err returned) = AddsUntaken old new parcel returned.why

abbrev pub AddsFill : Marked → Marked → List ℕ → List ℕ → Result Filled (CallError AllocError) → Type 0
AddsFill old new key bytes (Ok filled) = Adds old new (Fill key bytes) (FilledAs filled)
AddsFill old new key bytes (Err why) = new ≡ old

abbrev pub AddsUnretired : Marked → Marked → ℕ → CallError RetireError → Type 0
AddsUnretired old new other SeatSpent = new ≡ old
AddsUnretired old new other (Site retire.Memory) = new ≡ old
AddsUnretired old new other (Site why) = Adds old new (Retire other) (RetireRefused why)

abbrev pub AddsRetire : Marked → Marked → ℕ → Result Bool (CallError RetireError) → Type 0
AddsRetire old new other (Ok fresh) = Adds old new (Retire other) (Retired fresh)
AddsRetire old new other (Err why) = AddsUnretired old new other why

abbrev pub AddsCare : Marked → Marked → Type 0
AddsCare old new = (new ≡ old) ⊎ Within (λ olds news. NotesCare olds news old new)

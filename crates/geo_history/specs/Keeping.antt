-- A site with its history, and what each call leaves of both.
use Rattle.std.specs.Prelude.{◌≡◌, ◌≢◌, ◌⊎◌, ℕ, ◌+◌, ◌≤◌, ◌<◌, Bool, true, cond, List, [], ◌∷◌, ◌++◌, length, Option, None, Result, Ok, Err, slice_index_or, sum_by}
use Rattle.std.specs.declared.alloc.AllocError.{AllocError}
use Rattle.geo_delta.specs.declared.parcel.Parcel.{Parcel}
use Rattle.geo_requests.specs.declared.request.Request.{Request}
use Rattle.geo_requests.specs.declared.reply.Reply.{Reply}
use Rattle.geo_requests.specs.declared.reply.Reply.TheVariants.{OutOfMemory}
use Rattle.geo_site.specs.declared.setup.Setup.{Setup}
use Rattle.geo_site.specs.declared.site.Site.{Site}
use Rattle.geo_site.specs.declared.exchange.Taken.{Taken}
use Rattle.geo_site.specs.declared.exchange.Refused.{Refused}
use Rattle.geo_site.specs.declared.refusal.SendError.{SendError}
use Rattle.geo_site.specs.declared.refusal.SendError.TheVariants as sends
use Rattle.geo_site.specs.declared.refusal.TakeError.{TakeError}
use Rattle.geo_site.specs.declared.refusal.TakeError.TheVariants as takes
use Rattle.geo_site.specs.declared.refusal.ReapError.{ReapError}
use Rattle.geo_site.specs.declared.refusal.ReapError.TheVariants as reaps
use Rattle.geo_site.specs.declared.refusal.RetireError.{RetireError}
use Rattle.geo_site.specs.declared.refusal.RetireError.TheVariants as retire
use Rattle.geo_site.specs.declared.fill.Filled.{Filled}
use Rattle.geo_site.specs.Fills.{FillDoes}
use Rattle.geo_site.specs.Entries.{flushes_due, is_done, made_on}
use Rattle.geo_site.specs.Machine.{Same, visible_in, IsRecordCount, IsHeldCount}
use Rattle.geo_site.specs.Sites.{state_in, record_count, held_count, waiting_in, clock_in, victim_in, issued_in, ActDoes, FlushDoes, OpenDoes, SendDoes, TakeDoes, RemoveDoes, RetireDoes, EvictDoes, ReapDoes, JuggleDoes, Rests, Stays, Remains}
use Rattle.geo_history.specs.declared.history.Opening.{Opening}
use Rattle.geo_history.specs.declared.parts.Parts.{Parts}
use Rattle.geo_site.specs.declared.event.Event.{Event}
use Rattle.geo_site.specs.declared.event.Event.TheVariants.{Command, Evict, Send, Take, Remove, Tick, Reap, Fill, Retire}
use Rattle.geo_site.specs.declared.event.Answer.{Answer}
use Rattle.geo_site.specs.declared.event.Answer.TheVariants.{Replied, Evicted, Sent, SendRefused, Taken as Took, TakeRefused, Removed, Ticked, Reaped, ReapRefused, Filled as FilledAs, Retired, RetireRefused}
use Rattle.geo_history.specs.declared.step.Step.{Step}
use Rattle.geo_site.specs.Standings.{Who, who_in, Standing, standing_in, nothing_yet, Describes}
use Rattle.geo_history.specs.Replays.{Replays, steps_of, is_numbered}

-- the most steps of a seat, and how many seats there are
abbrev pub most_steps : ℕ
most_steps = 281474976710656

abbrev pub most_seats : ℕ
most_seats = 256

-- a site, where its history opened, and the steps since then
pub record Story : Type 0 where
  pub site : Site
  pub opening : Opening
  pub steps : List Step

-- how many steps a seat had made where the history opened, and has made by now
abbrev pub opened_with : Opening → ℕ → ℕ
opened_with opening seat = slice_index_or opening.counts.items seat 0

abbrev pub made_in : Opening → List Step → ℕ → ℕ
made_in opening steps seat = opened_with opening seat + length (steps_of seat steps)

abbrev pub made_by : Story → ℕ → ℕ
made_by story seat = made_in story.opening story.steps seat

-- how many all seats had made, and have made by now
abbrev pub opened_total : Opening → ℕ
opened_total opening = sum_by (λ n. n) opening.counts.items

abbrev pub made_in_all : Story → ℕ
made_in_all story = opened_total story.opening + length story.steps

-- these count each seat's steps, of which there are no more than may be
pub record IsCounted (opening : Opening) (steps : List Step) (counts : List ℕ) : Type 0 where
  pub many : length counts ≡ most_seats
  pub few : (seat : ℕ) → seat < most_seats → made_in opening steps seat ≤ most_steps
  pub counted : (seat : ℕ) → seat < most_seats → slice_index_or counts seat 0 ≡ made_in opening steps seat
  pub total : sum_by (λ n. n) counts ≡ opened_total opening + length steps

abbrev pub story_of : Parts → Story
story_of parts = record { site = parts.site; opening = parts.opening; steps = parts.steps.items }

-- the steps lead from where a history opened to where its site stands, and those of each seat are numbered one after the other
pub record Keeps (who : Who) (opening : Opening) (steps : List Step) (last : Standing) : Type 0 where
  pub first : Standing
  pub opens : Describes opening.state first
  pub replays : Replays who first steps last
  pub numbered : (seat : ℕ) → is_numbered (opened_with opening seat + 1) (steps_of seat steps) ≡ true

abbrev pub IsKept : Story → Type 0
IsKept story = Keeps (who_in story.site) story.opening story.steps (standing_in story.site)

-- a seat's next step, for whose bytes those of a victim went, and which made these of older ones
abbrev pub step_with : ℕ → ℕ → Event → Answer → Option (List ℕ) → Option (List ℕ × ℕ) → Step
step_with seat number event answer victim made = record {
  seat = seat;
  number = number;
  event = event;
  answer = answer;
  victim = victim;
  made = made;
}

abbrev pub step_of : ℕ → ℕ → Event → Answer → Step
step_of seat number event answer = step_with seat number event answer None None

-- the history goes on from where it opened, with these steps more
pub record GoesOn (old new : Story) (steps : List Step) : Type 0 where
  pub opening : new.opening ≡ old.opening
  pub more : new.steps ≡ old.steps ++ steps

-- the step of a due flush, and how many there are of it
abbrev pub is_flush_due : Story → ℕ → Bool
is_flush_due story now = flushes_due (waiting_in story.site) (clock_in story.site) now

abbrev pub flush_count : Story → ℕ → ℕ
flush_count story now = cond (is_flush_due story now) 1 0

abbrev pub flush_steps : Story → ℕ → ℕ → List Step
flush_steps story seat now =
    cond {A = List Step} (is_flush_due story now) (step_of seat (made_by story seat + 1) (Tick now) (Ticked true) ∷ []) []

-- the seat's number of the step after a due flush
abbrev pub number_after : Story → ℕ → ℕ → ℕ
number_after story seat now = made_by story seat + flush_count story now + 1

-- a due flush alone was carried out, with its step
pub record FlushesAlone (old new : Story) (seat now : ℕ) : Type 0 where
  pub flush : FlushDoes old.site new.site now
  pub goes_on : GoesOn old new (flush_steps old seat now)

-- nothing was done, or a due flush alone
abbrev pub DoesNothing : Story → Story → ℕ → ℕ → Type 0
DoesNothing old new seat now = (new ≡ old) ⊎ FlushesAlone old new seat now

-- what a command does: what it does at the site, with a step of its own after that of a due flush, and two equal replies
pub record ActsFor (old new : Story) (seat now : ℕ) (request : Request) (replies : Reply × Reply) : Type 0 where
  pub does : ActDoes old.site new.site now request replies.0
  pub equal : replies.1 ≡ replies.0
  pub said : replies.0 ≢ OutOfMemory
  pub goes_on : GoesOn old new (flush_steps old seat now
      ++ step_with seat (number_after old seat now) (Command now request) (Replied replies.0)
      (cond (is_done replies.0) (victim_in does.mid (issued_in does.mid now request)) None)
      (cond (is_done replies.0) (made_on now (visible_in (state_in does.mid) now) request) None) ∷ [])

abbrev pub ActForDoes : Story → Story → ℕ → ℕ → Request → Result (Reply × Reply) AllocError → Type 0
ActForDoes old new seat now request (Ok replies) = ActsFor old new seat now request replies
ActForDoes old new seat now request (Err refused) = DoesNothing old new seat now

-- what a send does: the parcel twice, or the refusal, and its step; the site stays
abbrev pub SendForDoes : Story → Story → ℕ → ℕ → Result (Parcel × Parcel) SendError → Type 0
SendForDoes old new seat to (Ok parcels) = SendDoes old.site to (Ok parcels.0) × (parcels.1 ≡ parcels.0) × (new.site ≡ old.site)
    × GoesOn old new (step_of seat (made_by old seat + 1) (Send to) (Sent parcels.0) ∷ [])
SendForDoes old new seat to (Err sends.NoSuchSite) = SendDoes old.site to (Err sends.NoSuchSite) × (new.site ≡ old.site)
    × GoesOn old new (step_of seat (made_by old seat + 1) (Send to) (SendRefused sends.NoSuchSite) ∷ [])
SendForDoes old new seat to (Err sends.Retired) = SendDoes old.site to (Err sends.Retired) × (new.site ≡ old.site)
    × GoesOn old new (step_of seat (made_by old seat + 1) (Send to) (SendRefused sends.Retired) ∷ [])
SendForDoes old new seat to (Err sends.Memory) = new ≡ old

-- nothing that is known, held, counted or told of a site changes, and no step is made
pub record LeavesAll (old new : Story) : Type 0 where
  pub same : Same (state_in old.site) (state_in new.site)
  pub rests : Rests old.site new.site
  pub stays : Stays old.site new.site
  pub goes_on : GoesOn old new []

-- what a take does; a refused parcel is handed back
pub record TakesFor (old new : Story) (seat : ℕ) (parcel : Parcel) (result : Result Taken Refused) (answer : Answer) : Type 0 where
  pub does : TakeDoes old.site new.site parcel result
  pub rests : Rests old.site new.site
  pub remains : Remains old.site new.site
  pub held_before : IsHeldCount (state_in old.site).stock.held (held_count old.site)
  pub held_after : IsHeldCount (state_in new.site).stock.held (held_count new.site)
  pub goes_on : GoesOn old new (step_of seat (made_by old seat + 1) (Take parcel) answer ∷ [])

abbrev pub RefusedFor : Story → Story → ℕ → Parcel → Refused → TakeError → Type 0
RefusedFor old new seat parcel refused takes.Memory = LeavesAll old new × (refused.parcel ≡ parcel)
RefusedFor old new seat parcel refused why = TakesFor old new seat parcel (Err refused) (TakeRefused why)

abbrev pub TakeForDoes : Story → Story → ℕ → Parcel → Result Taken Refused → Type 0
TakeForDoes old new seat parcel (Ok taken) = TakesFor old new seat parcel (Ok taken) (Took taken)
TakeForDoes old new seat parcel (Err refused) = RefusedFor old new seat parcel refused refused.why

-- what a removal, an eviction and a tick do
pub record RemovesFor (old new : Story) (seat count : ℕ) : Type 0 where
  pub does : RemoveDoes old.site new.site count
  pub recorded_before : IsRecordCount (state_in old.site).map (record_count old.site)
  pub recorded_after : IsRecordCount (state_in new.site).map (record_count new.site)
  pub goes_on : GoesOn old new (step_of seat (made_by old seat + 1) Remove (Removed count) ∷ [])

abbrev pub RemoveForDoes : Story → Story → ℕ → Result ℕ AllocError → Type 0
RemoveForDoes old new seat (Ok count) = RemovesFor old new seat count
RemoveForDoes old new seat (Err refused) = new ≡ old

abbrev pub EvictForDoes : Story → Story → ℕ → List ℕ → Result Bool AllocError → Type 0
EvictForDoes old new seat key (Ok done) = EvictDoes old.site new.site key done
    × GoesOn old new (step_of seat (made_by old seat + 1) (Evict key) (Evicted done) ∷ [])
EvictForDoes old new seat key (Err refused) = new ≡ old

abbrev pub TickForDoes : Story → Story → ℕ → ℕ → Result Bool AllocError → Type 0
TickForDoes old new seat now (Ok done) = (done ≡ is_flush_due old now) × FlushesAlone old new seat now
TickForDoes old new seat now (Err refused) = new ≡ old

-- what a fill does; where memory is wanted nothing is done
abbrev pub FillForDoes : Story → Story → ℕ → List ℕ → List ℕ → Result Filled AllocError → Type 0
FillForDoes old new seat key bytes (Ok filled) = FillDoes old.site new.site key bytes (Ok filled)
    × GoesOn old new (step_of seat (made_by old seat + 1) (Fill key bytes) (FilledAs filled) ∷ [])
FillForDoes old new seat key bytes (Err refused) = LeavesAll old new

-- what a retirement does
pub record RetiresFor (old new : Story) (seat other : ℕ) (result : Result Bool RetireError) (answer : Answer) : Type 0 where
  pub does : RetireDoes old.site new.site other result
  pub rests : Rests old.site new.site
  pub remains : Remains old.site new.site
  pub goes_on : GoesOn old new (step_of seat (made_by old seat + 1) (Retire other) answer ∷ [])

abbrev pub RetireForDoes : Story → Story → ℕ → ℕ → Result Bool RetireError → Type 0
RetireForDoes old new seat other (Ok fresh) = RetiresFor old new seat other (Ok fresh) (Retired fresh)
RetireForDoes old new seat other (Err retire.NoSuchSite) =
    RetiresFor old new seat other (Err retire.NoSuchSite) (RetireRefused retire.NoSuchSite)
RetireForDoes old new seat other (Err retire.Memory) = new ≡ old

-- what a reap does after a due flush
pub record ReapsFor (old new : Story) (seat now : ℕ) (key : List ℕ) (result : Result Bool ReapError) (answer : Answer) : Type 0 where
  pub does : ReapDoes old.site new.site now key result
  pub goes_on : GoesOn old new (flush_steps old seat now ++ step_of seat (number_after old seat now) (Reap now key) answer ∷ [])

abbrev pub ReapForDoes : Story → Story → ℕ → ℕ → List ℕ → Result Bool ReapError → Type 0
ReapForDoes old new seat now key (Ok done) = ReapsFor old new seat now key (Ok done) (Reaped done)
ReapForDoes old new seat now key (Err reaps.ClockEnded) =
    ReapsFor old new seat now key (Err reaps.ClockEnded) (ReapRefused reaps.ClockEnded)
ReapForDoes old new seat now key (Err reaps.Memory) = DoesNothing old new seat now

-- what a juggle does: the site's move, and no step
pub record JuggleForDoes (old new : Story) (class : ℕ) (result : Result Bool AllocError) : Type 0 where
  pub does : JuggleDoes old.site new.site class result
  pub rests : Rests old.site new.site
  pub stays : Stays old.site new.site
  pub goes_on : GoesOn old new []

-- a history opens empty
pub record OpensEmpty (setup : Setup) (story : Story) : Type 0 where
  pub site : OpenDoes setup (Ok story.site)
  pub era : story.opening.era ≡ 0
  pub state : Describes story.opening.state (nothing_yet setup.sites)
  pub counts : (seat : ℕ) → opened_with story.opening seat ≡ 0
  pub steps : story.steps ≡ []

-- The step that a call of a site makes, and what is noted of it.
use Rattle.std.proofs.Common.{◌≡◌, ◌≢◌, ◌⊎◌, inl, inr, ℕ, ◌+◌, Bool, true, false, cond, List, [], ◌∷◌, ◌++◌, Option, None, Some, Result, Ok, Err, IfSome, refl, ap, sym, ◌∙◌, subst}
use Rattle.std.proofs.Math.Logic.{∥∥₁_map}
use Rattle.std.specs.declared.alloc.AllocError.{AllocError}
use Rattle.geo_delta.specs.declared.parcel.Parcel.{Parcel}
use Rattle.geo_requests.specs.declared.request.Request.{Request}
use Rattle.geo_requests.specs.declared.reply.Reply.{Reply}
use Rattle.geo_site.specs.declared.event.Event.{Event}
use Rattle.geo_site.specs.declared.event.Event.TheVariants.{Command, Send, Take, Remove, Tick, Reap, Fill, Retire}
use Rattle.geo_site.specs.declared.event.Answer.{Answer}
use Rattle.geo_site.specs.declared.event.Answer.TheVariants.{Replied, Sent, SendRefused, Taken as Took, TakeRefused, Removed, Ticked, Reaped, ReapRefused, Filled as FilledAs, Retired, RetireRefused}
use Rattle.geo_site.specs.declared.exchange.Taken.{Taken}
use Rattle.geo_site.specs.declared.exchange.Refused.{Refused}
use Rattle.geo_site.specs.declared.fill.Filled.{Filled}
use Rattle.geo_site.specs.declared.refusal.SendError.{SendError}
use Rattle.geo_site.specs.declared.refusal.SendError.TheVariants as sends
use Rattle.geo_site.specs.declared.refusal.TakeError.{TakeError}
use Rattle.geo_site.specs.declared.refusal.TakeError.TheVariants as takes
use Rattle.geo_site.specs.declared.refusal.ReapError.{ReapError}
use Rattle.geo_site.specs.declared.refusal.ReapError.TheVariants as reaps
use Rattle.geo_site.specs.declared.refusal.RetireError.{RetireError}
use Rattle.geo_site.specs.declared.refusal.RetireError.TheVariants as retire
use Rattle.geo_site.specs.Standings.{standing_in}
use Rattle.geo_history.specs.declared.history.History.{History}
use Rattle.geo_history.specs.declared.step.Step.{Step}
use Rattle.geo_history.specs.Stories.{NewEraDoes}
use Rattle.geo_history.specs.Keeping.{Story, FlushesAlone, DoesNothing, LeavesAll, JuggleForDoes, made_by, step_with, step_of, number_after, is_flush_due, flush_steps, GoesOn, ActsFor, ActForDoes, SendForDoes, TakesFor, RefusedFor, TakeForDoes, RemoveForDoes, FillForDoes, RetireForDoes, TickForDoes, ReapForDoes}
use Rattle.geo_history.specs.Logging.{last_step}
use Rattle.geo_history.proofs.Calls.{Goes, act_goes, send_goes, take_goes, remove_goes, fill_goes, retire_goes, tick_goes, reap_goes, juggle_goes}
use Rattle.geo_journal.specs.Marks.{Noted, Marked, Agree, with_step, marked_with}
use Rattle.geo_station.specs.declared.desk.Unmade.{Unmade}
use Rattle.geo_station.specs.declared.refusal.CallError.{CallError}
use Rattle.geo_station.specs.declared.refusal.CallError.TheVariants.{SeatSpent, Site}
use Rattle.geo_station.specs.declared.refusal.Returned.{Returned}
use Rattle.geo_station.specs.Wholes.{IsWhole, IsMadeBy, IsReplayed, NotesNone, NotesOne, TicksOnce, NotesFlush, NotesReply, NotesAnswer, NotesSend, NotesCare, AddsAnswer, AddsParcels, AddsCare, NotesUnsent, NotesUntaken, NotesTake, NotesFill, NotesUnretired, NotesRetire, Adds, AddsFlush, AddsReply, AddsUnsent, AddsUntaken, AddsTake, AddsFill, AddsUnretired, AddsRetire}
use Rattle.geo_station.proofs.Noting.{last_made, whole_more, whole_noted, whole_still, whole_renewed, notes_last, undue_more, undue_none}

-- one step more: a seat's event, with this answer
pub record StepsOne (old new : Story) (seat : ℕ) (event : Event) (answer : Answer) : Type 0 where
  pub step : Step
  pub on : GoesOn old new (step ∷ [])
  pub owner : step.seat ≡ seat
  pub asked : step.event ≡ event
  pub said : step.answer ≡ answer
  pub goes : Goes old new

abbrev pub Noting : Story → Noted → Noted → Marked → Marked → Type 0
Noting story olds news old new = IfSome (last_step story.steps) (λ s. (news ≡ with_step olds s) × (new ≡ marked_with olds old s))

pub one_made : (old new : Story) (seat : ℕ) (event : Event) (answer : Answer) → StepsOne old new seat event answer → IsMadeBy new seat
one_made old new seat event answer one = (one.step, last_made old new one.step one.on, one.owner)

pub one_whole : (old new : Story) (seat : ℕ) (event : Event) (answer : Answer) (olds news : Noted) (before after : Marked) → StepsOne old new seat event answer
    → Noting new olds news before after → ∥ IsWhole old olds ∥₁ → ∥ IsWhole new news ∥₁
one_whole old new seat event answer olds news before after one noted whole =
    ∥∥₁_map whole (whole_noted old new olds news one.step (λ s. after ≡ marked_with olds before s) one.goes one.on noted)

pub one_noted : (old new : Story) (event : Event) (answer : Answer) (olds news : Noted) (before after : Marked) → StepsOne old new before.number event answer
    → Noting new olds news before after → Agree olds before → NotesOne olds news before after event answer
one_noted old new event answer olds news before after one noted agree =
    notes_last olds news before after new one.step event answer (last_made old new one.step one.on) noted agree one.owner one.asked one.said

-- ---- each call
pub tick_one : (old new : Story) (seat now : ℕ) (done : Bool) → done ≡ true → TickForDoes old new seat now (Ok done) → StepsOne old new seat (Tick now) (Ticked true)
tick_one old new seat now done is d = record {
  step = step_of seat (made_by old seat + 1) (Tick now) (Ticked true);
  on = subst (λ (b : Bool). GoesOn old new (cond {A = List Step} b (step_of seat (made_by old seat + 1) (Tick now) (Ticked true) ∷ []) [])) (sym d.0 ∙ is) d.1.goes_on;
  owner = refl;
  asked = refl;
  said = refl;
  goes = tick_goes old new seat now (Ok done) d;
}

pub tick_still : (old new : Story) (seat now : ℕ) (done : Bool) (all : Noted) → done ≡ false → TickForDoes old new seat now (Ok done) → ∥ IsWhole old all ∥₁ → ∥ IsWhole new all ∥₁
tick_still old new seat now done all is d whole =
    let on : GoesOn old new [] = subst (λ (b : Bool). GoesOn old new (cond {A = List Step} b (step_of seat (made_by old seat + 1) (Tick now) (Ticked true) ∷ []) [])) (sym d.0 ∙ is) d.1.goes_on in
    ∥∥₁_map whole (whole_still old new all (tick_goes old new seat now (Ok done) d) on)

pub act_one : (old new : Story) (seat now : ℕ) (request : Request) (replies : Reply × Reply) → is_flush_due old now ≡ false → ActsFor old new seat now request replies
    → StepsOne old new seat (Command now request) (Replied replies.0)
act_one old new seat now request replies undue d = record {
  step = step_with seat (number_after old seat now) (Command now request) (Replied replies.0) _ _;
  on = undue_more old new seat now _ undue d.goes_on;
  owner = refl;
  asked = refl;
  said = refl;
  goes = act_goes old new seat now request (Ok replies) d;
}

step_one : (old new : Story) (seat : ℕ) (event : Event) (answer : Answer) → Goes old new → GoesOn old new (step_of seat (made_by old seat + 1) event answer ∷ []) → StepsOne old new seat event answer
step_one old new seat event answer goes on = record { step = step_of seat (made_by old seat + 1) event answer; on = on; owner = refl; asked = refl; said = refl; goes = goes }

pub send_one : (old new : Story) (seat to : ℕ) (parcels : Parcel × Parcel) → SendForDoes old new seat to (Ok parcels) → StepsOne old new seat (Send to) (Sent parcels.0)
send_one old new seat to parcels d = step_one old new seat (Send to) (Sent parcels.0) (send_goes old new seat to (Ok parcels) d) d.3

pub unsent_one : (old new : Story) (seat to : ℕ) (why : SendError) → why ≢ sends.Memory → SendForDoes old new seat to (Err why) → StepsOne old new seat (Send to) (SendRefused why)
unsent_one old new seat to sends.NoSuchSite other d = step_one old new seat (Send to) (SendRefused sends.NoSuchSite) (send_goes old new seat to (Err sends.NoSuchSite) d) d.2
unsent_one old new seat to sends.Retired other d = step_one old new seat (Send to) (SendRefused sends.Retired) (send_goes old new seat to (Err sends.Retired) d) d.2
unsent_one old new seat to sends.Memory other d = absurd (other refl)

pub take_one : (old new : Story) (seat : ℕ) (parcel : Parcel) (taken : Taken) → TakeForDoes old new seat parcel (Ok taken) → StepsOne old new seat (Take parcel) (Took taken)
take_one old new seat parcel taken d = step_one old new seat (Take parcel) (Took taken) (take_goes old new seat parcel (Ok taken) d) d.goes_on

untaken_on : (old new : Story) (seat : ℕ) (parcel : Parcel) (refused : Refused) (why : TakeError) → why ≢ takes.Memory → RefusedFor old new seat parcel refused why
    → GoesOn old new (step_of seat (made_by old seat + 1) (Take parcel) (TakeRefused why) ∷ [])
untaken_on old new seat parcel refused takes.NotForMe other d = d.goes_on
untaken_on old new seat parcel refused takes.UnknownSite other d = d.goes_on
untaken_on old new seat parcel refused takes.Retired other d = d.goes_on
untaken_on old new seat parcel refused takes.Gap other d = d.goes_on
untaken_on old new seat parcel refused takes.Memory other d = absurd (other refl)

pub untaken_one : (old new : Story) (seat : ℕ) (parcel : Parcel) (refused : Refused) → refused.why ≢ takes.Memory → TakeForDoes old new seat parcel (Err refused)
    → StepsOne old new seat (Take parcel) (TakeRefused refused.why)
untaken_one old new seat parcel refused other d = step_one old new seat (Take parcel) (TakeRefused refused.why) (take_goes old new seat parcel (Err refused) d) (untaken_on old new seat parcel refused refused.why other d)

pub fill_one : (old new : Story) (seat : ℕ) (key bytes : List ℕ) (filled : Filled) → FillForDoes old new seat key bytes (Ok filled) → StepsOne old new seat (Fill key bytes) (FilledAs filled)
fill_one old new seat key bytes filled d = step_one old new seat (Fill key bytes) (FilledAs filled) (fill_goes old new seat key bytes (Ok filled) d) d.1

pub retire_one : (old new : Story) (seat other : ℕ) (fresh : Bool) → RetireForDoes old new seat other (Ok fresh) → StepsOne old new seat (Retire other) (Retired fresh)
retire_one old new seat other fresh d = step_one old new seat (Retire other) (Retired fresh) (retire_goes old new seat other (Ok fresh) d) d.goes_on

pub unretired_one : (old new : Story) (seat other : ℕ) (why : RetireError) → why ≢ retire.Memory → RetireForDoes old new seat other (Err why) → StepsOne old new seat (Retire other) (RetireRefused why)
unretired_one old new seat other retire.NoSuchSite else d = step_one old new seat (Retire other) (RetireRefused retire.NoSuchSite) (retire_goes old new seat other (Err retire.NoSuchSite) d) d.goes_on
unretired_one old new seat other retire.Memory else d = absurd (else refl)

pub remove_one : (old new : Story) (seat count : ℕ) → RemoveForDoes old new seat (Ok count) → StepsOne old new seat Remove (Removed count)
remove_one old new seat count d = step_one old new seat Remove (Removed count) (remove_goes old new seat (Ok count) d) d.goes_on

-- ---- what a station's call adds
pub replayed : (story : Story) (all : Noted) → ∥ IsWhole story all ∥₁ → IsReplayed all
replayed story all whole = ∥∥₁_map whole (λ w. (standing_in story.site, w.history))

pub adds_one : (story : Story) (olds news : Noted) (old new : Marked) (event : Event) (answer : Answer) → ∥ IsWhole story news ∥₁ → NotesOne olds news old new event answer → Adds old new event answer
adds_one story olds news old new event answer whole one = (olds, news, one, replayed story news whole)

pub adds_flush : (story : Story) (olds news : Noted) (old new : Marked) (now : ℕ) → ∥ IsWhole story news ∥₁ → NotesFlush olds news old new now → AddsFlush old new now
adds_flush story olds news old new now whole (true, one) = inr (adds_one story olds news old new (Tick now) (Ticked true) whole one)
adds_flush story olds news old new now whole (false, none) = inl none.1

pub adds_answer : (story : Story) (olds news : Noted) (old new : Marked) (now : ℕ) (request : Request) (result : Result (Reply × Reply) Unmade) → ∥ IsWhole story news ∥₁
    → NotesAnswer olds news old new now request result → AddsAnswer old new now request result
adds_answer story olds news old new now request (Ok replies) whole noted = (olds, news, noted, replayed story news whole)
adds_answer story olds news old new now request (Err why) whole noted = adds_flush story olds news old new now whole noted

adds_unsent : (story : Story) (olds news : Noted) (old new : Marked) (to : ℕ) (why : CallError SendError) → ∥ IsWhole story news ∥₁ → NotesUnsent olds news old new to why → AddsUnsent old new to why
adds_unsent story olds news old new to SeatSpent whole noted = noted.1
adds_unsent story olds news old new to (Site sends.Memory) whole noted = noted.1
adds_unsent story olds news old new to (Site sends.NoSuchSite) whole noted = adds_one story olds news old new (Send to) (SendRefused sends.NoSuchSite) whole noted
adds_unsent story olds news old new to (Site sends.Retired) whole noted = adds_one story olds news old new (Send to) (SendRefused sends.Retired) whole noted

pub adds_parcels : (story : Story) (olds news : Noted) (old new : Marked) (to : ℕ) (result : Result (Parcel × Parcel) (CallError SendError)) → ∥ IsWhole story news ∥₁
    → NotesSend olds news old new to result → AddsParcels old new to result
adds_parcels story olds news old new to (Ok parcels) whole noted = adds_one story olds news old new (Send to) (Sent parcels.0) whole noted
adds_parcels story olds news old new to (Err why) whole noted = adds_unsent story olds news old new to why whole noted

adds_untaken : (story : Story) (olds news : Noted) (old new : Marked) (parcel : Parcel) (why : CallError TakeError) → ∥ IsWhole story news ∥₁ → NotesUntaken olds news old new parcel why → AddsUntaken old new parcel why
adds_untaken story olds news old new parcel SeatSpent whole noted = noted.1
adds_untaken story olds news old new parcel (Site takes.Memory) whole noted = noted.1
adds_untaken story olds news old new parcel (Site takes.NotForMe) whole noted = adds_one story olds news old new (Take parcel) (TakeRefused takes.NotForMe) whole noted
adds_untaken story olds news old new parcel (Site takes.UnknownSite) whole noted = adds_one story olds news old new (Take parcel) (TakeRefused takes.UnknownSite) whole noted
adds_untaken story olds news old new parcel (Site takes.Retired) whole noted = adds_one story olds news old new (Take parcel) (TakeRefused takes.Retired) whole noted
adds_untaken story olds news old new parcel (Site takes.Gap) whole noted = adds_one story olds news old new (Take parcel) (TakeRefused takes.Gap) whole noted

pub adds_take : (story : Story) (olds news : Noted) (old new : Marked) (parcel : Parcel) (result : Result Taken Returned) → ∥ IsWhole story news ∥₁ → NotesTake olds news old new parcel result → AddsTake old new parcel result
adds_take story olds news old new parcel (Ok taken) whole noted = adds_one story olds news old new (Take parcel) (Took taken) whole noted
adds_take story olds news old new parcel (Err returned) whole noted = adds_untaken story olds news old new parcel returned.why whole noted

pub adds_fill : (story : Story) (olds news : Noted) (old new : Marked) (key bytes : List ℕ) (result : Result Filled (CallError AllocError)) → ∥ IsWhole story news ∥₁ → NotesFill olds news old new key bytes result → AddsFill old new key bytes result
adds_fill story olds news old new key bytes (Ok filled) whole noted = adds_one story olds news old new (Fill key bytes) (FilledAs filled) whole noted
adds_fill story olds news old new key bytes (Err why) whole noted = noted.1

adds_unretired : (story : Story) (olds news : Noted) (old new : Marked) (other : ℕ) (why : CallError RetireError) → ∥ IsWhole story news ∥₁ → NotesUnretired olds news old new other why → AddsUnretired old new other why
adds_unretired story olds news old new other SeatSpent whole noted = noted.1
adds_unretired story olds news old new other (Site retire.Memory) whole noted = noted.1
adds_unretired story olds news old new other (Site retire.NoSuchSite) whole noted = adds_one story olds news old new (Retire other) (RetireRefused retire.NoSuchSite) whole noted

pub adds_retire : (story : Story) (olds news : Noted) (old new : Marked) (other : ℕ) (result : Result Bool (CallError RetireError)) → ∥ IsWhole story news ∥₁ → NotesRetire olds news old new other result → AddsRetire old new other result
adds_retire story olds news old new other (Ok fresh) whole noted = adds_one story olds news old new (Retire other) (Retired fresh) whole noted
adds_retire story olds news old new other (Err why) whole noted = adds_unretired story olds news old new other why whole noted

pub adds_care : (story : Story) (olds news : Noted) (old new : Marked) → ∥ IsWhole story news ∥₁ → NotesCare olds news old new → AddsCare old new
adds_care story olds news old new whole care = inr (olds, news, care, replayed story news whole)

-- ---- what makes no step
pub same_still : (old new : Story) (all : Noted) → new ≡ old → ∥ IsWhole old all ∥₁ → ∥ IsWhole new all ∥₁
same_still old new all same whole = subst (λ (s : Story). ∥ IsWhole s all ∥₁) (sym same) whole

none_still : (old new : Story) (all : Noted) → Goes old new → GoesOn old new [] → ∥ IsWhole old all ∥₁ → ∥ IsWhole new all ∥₁
none_still old new all goes on whole = ∥∥₁_map whole (whole_still old new all goes on)

nothing_still : (old new : Story) (seat now : ℕ) (all : Noted) → is_flush_due old now ≡ false → Goes old new → DoesNothing old new seat now → ∥ IsWhole old all ∥₁ → ∥ IsWhole new all ∥₁
nothing_still old new seat now all undue goes (inl same) whole = same_still old new all same whole
nothing_still old new seat now all undue goes (inr flush) whole = none_still old new all goes (undue_none old new seat now undue flush.goes_on) whole

pub act_still : (old new : Story) (seat now : ℕ) (request : Request) (refused : AllocError) (all : Noted) → is_flush_due old now ≡ false → ActForDoes old new seat now request (Err refused)
    → ∥ IsWhole old all ∥₁ → ∥ IsWhole new all ∥₁
act_still old new seat now request refused all undue d whole = nothing_still old new seat now all undue (act_goes old new seat now request (Err refused) d) d whole

pub reap_still : (old new : Story) (seat now : ℕ) (key : List ℕ) (all : Noted) → is_flush_due old now ≡ false → ReapForDoes old new seat now key (Err reaps.Memory)
    → ∥ IsWhole old all ∥₁ → ∥ IsWhole new all ∥₁
reap_still old new seat now key all undue d whole = nothing_still old new seat now all undue (reap_goes old new seat now key (Err reaps.Memory) d) d whole

pub fill_still : (old new : Story) (seat : ℕ) (key bytes : List ℕ) (refused : AllocError) (all : Noted) → FillForDoes old new seat key bytes (Err refused)
    → ∥ IsWhole old all ∥₁ → ∥ IsWhole new all ∥₁
fill_still old new seat key bytes refused all d whole = none_still old new all (fill_goes old new seat key bytes (Err refused) d) d.goes_on whole

pub take_still : (old new : Story) (seat : ℕ) (parcel : Parcel) (refused : Refused) (all : Noted) → refused.why ≡ takes.Memory → TakeForDoes old new seat parcel (Err refused)
    → ∥ IsWhole old all ∥₁ → ∥ IsWhole new all ∥₁
take_still old new seat parcel refused all is d whole =
    let leaves : LeavesAll old new × (refused.parcel ≡ parcel) = subst (λ (why : TakeError). RefusedFor old new seat parcel refused why) is d in
    none_still old new all (take_goes old new seat parcel (Err refused) d) leaves.0.goes_on whole

pub juggle_still : (old new : Story) (class : ℕ) (result : Result Bool AllocError) (all : Noted) → JuggleForDoes old new class result → ∥ IsWhole old all ∥₁ → ∥ IsWhole new all ∥₁
juggle_still old new class result all d whole = none_still old new all (juggle_goes old new class result d) d.goes_on whole

pub era_still : (logged : Bool) (old new : Story) (result : Result (Option History) AllocError) (all : Noted) → NewEraDoes logged old new result → ∥ IsWhole old all ∥₁ → ∥ IsWhole new all ∥₁
era_still logged old new (Ok (Some history)) all d whole = ∥∥₁_map whole (whole_renewed old new all d.1)
era_still logged old new (Ok None) all d whole = same_still old new all d.1 whole
era_still logged old new (Err refused) all d whole = same_still old new all d whole

-- ---- reaps
pub reap_one : (old new : Story) (seat now : ℕ) (key : List ℕ) (done : Bool) → is_flush_due old now ≡ false → ReapForDoes old new seat now key (Ok done) → StepsOne old new seat (Reap now key) (Reaped done)
reap_one old new seat now key done undue d = record {
  step = step_of seat (number_after old seat now) (Reap now key) (Reaped done);
  on = undue_more old new seat now _ undue d.goes_on;
  owner = refl;
  asked = refl;
  said = refl;
  goes = reap_goes old new seat now key (Ok done) d;
}

pub unreaped_one : (old new : Story) (seat now : ℕ) (key : List ℕ) → is_flush_due old now ≡ false → ReapForDoes old new seat now key (Err reaps.ClockEnded)
    → StepsOne old new seat (Reap now key) (ReapRefused reaps.ClockEnded)
unreaped_one old new seat now key undue d = record {
  step = step_of seat (number_after old seat now) (Reap now key) (ReapRefused reaps.ClockEnded);
  on = undue_more old new seat now _ undue d.goes_on;
  owner = refl;
  asked = refl;
  said = refl;
  goes = reap_goes old new seat now key (Err reaps.ClockEnded) d;
}

-- ---- the number of a mark stays
pub one_number : (olds news : Noted) (old new : Marked) (event : Event) (answer : Answer) → NotesOne olds news old new event answer → new.number ≡ old.number
one_number olds news old new event answer one = ap (λ (m : Marked). m.number) one.mark

pub ticked_number : (flushed : Bool) (olds news : Noted) (old new : Marked) (now : ℕ) → TicksOnce flushed olds news old new now → new.number ≡ old.number
ticked_number true olds news old new now one = one_number olds news old new (Tick now) (Ticked true) one
ticked_number false olds news old new now none = ap (λ (m : Marked). m.number) none.1

-- ---- refusals that are steps
pub unsent_notes : (olds news : Noted) (old new : Marked) (to : ℕ) (why : SendError) → why ≢ sends.Memory → NotesOne olds news old new (Send to) (SendRefused why) → NotesUnsent olds news old new to (Site why)
unsent_notes olds news old new to sends.NoSuchSite other one = one
unsent_notes olds news old new to sends.Retired other one = one
unsent_notes olds news old new to sends.Memory other one = absurd (other refl)

pub untaken_notes : (olds news : Noted) (old new : Marked) (parcel : Parcel) (why : TakeError) → why ≢ takes.Memory → NotesOne olds news old new (Take parcel) (TakeRefused why)
    → NotesUntaken olds news old new parcel (Site why)
untaken_notes olds news old new parcel takes.NotForMe other one = one
untaken_notes olds news old new parcel takes.UnknownSite other one = one
untaken_notes olds news old new parcel takes.Retired other one = one
untaken_notes olds news old new parcel takes.Gap other one = one
untaken_notes olds news old new parcel takes.Memory other one = absurd (other refl)

pub unretired_notes : (olds news : Noted) (old new : Marked) (other : ℕ) (why : RetireError) → why ≢ retire.Memory → NotesOne olds news old new (Retire other) (RetireRefused why)
    → NotesUnretired olds news old new other (Site why)
unretired_notes olds news old new other retire.NoSuchSite else one = one
unretired_notes olds news old new other retire.Memory else one = absurd (else refl)

-- ---- the same, of marks that are the same
pub moved : (P : Marked → Marked → Type 0) (a b c d : Marked) → a ≡ c → b ≡ d → P a b → P c d
moved P a b c d p q h = subst (λ (x : Marked). P x d) p (subst (λ (x : Marked). P a x) q h)

pub told_adds : (a b c d : Marked) (now : ℕ) (one other : Request) (replies : Reply × Reply) → a ≡ c → b ≡ d → one ≡ other → AddsAnswer a b now one (Ok replies) → AddsReply c d now other (Ok replies.0)
told_adds a b c d now one other replies p q r h = inr (moved (λ x y. AddsAnswer x y now other (Ok replies)) a b c d p q (subst (λ (r : Request). AddsAnswer a b now r (Ok replies)) r h))

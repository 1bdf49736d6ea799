-- What a call of a station leaves of the seat that made it.
use Rattle.std.specs.Prelude.{◌≡◌, ◌≢◌, ◌⊎◌, ℕ, ◌+◌, ◌≤◌, Bool, Result, Ok, Err}
use Rattle.geo_delta.specs.declared.parcel.Parcel.{Parcel}
use Rattle.geo_requests.specs.declared.request.Request.{Request}
use Rattle.geo_requests.specs.declared.reply.Reply.{Reply}
use Rattle.geo_requests.specs.declared.reply.Reply.TheVariants.{OutOfMemory}
use Rattle.std.specs.declared.alloc.AllocError.{AllocError}
use Rattle.geo_site.specs.declared.fill.Filled.{Filled}
use Rattle.geo_site.specs.declared.exchange.Taken.{Taken}
use Rattle.geo_site.specs.declared.refusal.SendError.{SendError}
use Rattle.geo_site.specs.declared.refusal.SendError.TheVariants as sends
use Rattle.geo_site.specs.declared.refusal.TakeError.{TakeError}
use Rattle.geo_site.specs.declared.refusal.TakeError.TheVariants as takes
use Rattle.geo_site.specs.declared.refusal.RetireError.{RetireError}
use Rattle.geo_site.specs.declared.refusal.RetireError.TheVariants as retire
use Rattle.geo_site.specs.declared.event.Event.{Event}
use Rattle.geo_site.specs.declared.event.Event.TheVariants.{Command, Send, Take}
use Rattle.geo_site.specs.declared.event.Answer.{Answer}
use Rattle.geo_site.specs.declared.event.Answer.TheVariants.{Replied, Sent, SendRefused, Taken as Took, TakeRefused}
use Rattle.geo_journal.specs.Marks.{Marked}
use Rattle.geo_station.specs.declared.maintain.Maintained.{Maintained}
use Rattle.geo_station.specs.declared.refusal.CallError.{CallError}
use Rattle.geo_station.specs.declared.refusal.CallError.TheVariants.{SeatSpent, Site}
use Rattle.geo_station.specs.declared.refusal.Returned.{Returned}
use Rattle.geo_station.specs.declared.refusal.SeatSpent.{SeatSpent as Spent}
use Rattle.geo_station.specs.declared.refusal.StationError.{StationError}
use Rattle.geo_station.specs.Maintenance.{Maintains}
use Rattle.geo_station.specs.Seats.{Seated, kept_with, call_of}

-- it made so many steps, by which its mark went on, and keeps the call with its answer, if it keeps any
abbrev pub called : Seated → Marked → ℕ → Event → Answer → Seated
called seat mark count event answer =
    record seat { mark = mark; steps = seat.steps + count; calls = kept_with seat.logged seat.calls (call_of event answer) }

-- a request, with a due flush before it
pub record HasAsked (old new : Seated) (now : ℕ) (request : Request) (reply : Reply) : Type 0 where
  pub flushes : ℕ
  pub few : flushes ≤ 1
  pub said : reply ≢ OutOfMemory
  pub is : new ≡ called old new.mark (flushes + 1) (Command now request) (Replied reply)

-- nothing, or a due flush
pub record HasFlushed (old new : Seated) : Type 0 where
  pub flushes : ℕ
  pub few : flushes ≤ 1
  pub is : new ≡ record old { mark = new.mark; steps = old.steps + flushes }

abbrev pub ActsBy : Seated → Seated → ℕ → Request → Result Reply Spent → Type 0
ActsBy old new now request (Ok reply) = HasAsked old new now request reply ⊎ ((reply ≡ OutOfMemory) × HasFlushed old new)
ActsBy old new now request (Err spent) = HasFlushed old new

abbrev pub SendRefusedBy : Seated → Seated → ℕ → CallError SendError → Type 0
SendRefusedBy old new to SeatSpent = new ≡ old
SendRefusedBy old new to (Site sends.Memory) = new ≡ old
SendRefusedBy old new to (Site why) = new ≡ called old new.mark 1 (Send to) (SendRefused why)

abbrev pub SendsBy : Seated → Seated → ℕ → Result Parcel (CallError SendError) → Type 0
SendsBy old new to (Ok parcel) = new ≡ called old new.mark 1 (Send to) (Sent parcel)
SendsBy old new to (Err why) = SendRefusedBy old new to why

abbrev pub TakeRefusedBy : Seated → Seated → Parcel → CallError TakeError → Type 0
TakeRefusedBy old new parcel SeatSpent = new ≡ old
TakeRefusedBy old new parcel (Site takes.Memory) = new ≡ old
TakeRefusedBy old new parcel (Site why) = new ≡ called old new.mark 1 (Take parcel) (TakeRefused why)

abbrev pub TakesBy : Seated → Seated → Parcel → Result Taken Returned → Type 0
TakesBy old new parcel (Ok told) = new ≡ called old new.mark 1 (Take parcel) (Took told)
TakesBy old new parcel (Err returned) = (returned.parcel ≡ parcel) × TakeRefusedBy old new parcel returned.why

-- a fill is a step that the seat does not keep; a refusal leaves none
abbrev pub FillsBy : Seated → Seated → Result Filled (CallError AllocError) → Type 0
FillsBy old new (Ok filled) = new ≡ record old { mark = new.mark; steps = old.steps + 1 }
FillsBy old new (Err why) = new ≡ old

-- a retirement is a step that the seat does not keep, a refused one too, but for want of memory and where the seat is spent
abbrev pub retires_made : CallError RetireError → ℕ
retires_made SeatSpent = 0
retires_made (Site retire.Memory) = 0
retires_made (Site retire.NoSuchSite) = 1

abbrev pub RetiresBy : Seated → Seated → Result Bool (CallError RetireError) → Type 0
RetiresBy old new (Ok fresh) = new ≡ record old { mark = new.mark; steps = old.steps + 1 }
RetiresBy old new (Err why) = new ≡ record old { mark = new.mark; steps = old.steps + retires_made why }

-- a maintenance makes steps and changes nothing else of a seat
abbrev pub MaintainsBy : Seated → Seated → Result Maintained Spent → Type 0
MaintainsBy old new (Ok done) = (new ≡ record old { mark = new.mark; steps = new.steps }) × Maintains old.steps new.steps done
MaintainsBy old new (Err spent) = new ≡ old

-- how many steps a refusal leaves: want of memory and a spent seat leave none
abbrev pub sends_made : CallError SendError → ℕ
sends_made SeatSpent = 0
sends_made (Site sends.Memory) = 0
sends_made (Site why) = 1

abbrev pub takes_made : CallError TakeError → ℕ
takes_made SeatSpent = 0
takes_made (Site takes.Memory) = 0
takes_made (Site why) = 1

-- a station has 2 to 256 seats
abbrev pub StationOpens : ℕ → Result ℕ StationError → Type 0
StationOpens seats (Ok station) = (2 ≤ seats) × (seats ≤ 256) × (station ≡ seats)
StationOpens seats (Err why) = (2 ≤ seats) × (seats ≤ 256) → ⊥

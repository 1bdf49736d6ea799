-- A seat at a shared site, with a seat of a tally.
use Rattle.std.specs.Prelude.{◌≡◌, ◌⊎◌, ◌≤◌, ◌^◌, ℕ, max, Result, Ok, Err, IfOk}
use Rattle.geo_requests.specs.declared.reply.Reply.{Reply}
use Rattle.geo_requests.specs.declared.reply.Reply.TheVariants.{OutOfMemory}
use Rattle.geo_requests.specs.declared.request.Request.{Request}
use Rattle.geo_station.specs.Calls.{ActsBy}
use Rattle.geo_station.specs.Receipts.{IsAnswer}
use Rattle.geo_station.specs.Seats.{Seated, trimmed}
use Rattle.geo_station.specs.Wholes.{AddsReply}
use Rattle.geo_station.specs.declared.refusal.SeatSpent.{SeatSpent}
use Rattle.geo_tally.specs.Seats.{SeatView, added, adds_of}
use Rattle.geo_tally.specs.Words.{most_adds}
use Rattle.geo_tally.specs.declared.counter.Counter.{Counter}
use Rattle.geo_tally.specs.declared.counter.Counter.TheVariants.{Requests}

-- a seat at a shared site, the moment at which it asked last, and a seat of a tally
pub record Asker : Type 0 where
  pub seat : Seated
  pub last : ℕ
  pub counts : SeatView

abbrev pub asker : Seated → ℕ → SeatView → Asker
asker seat last counts = record { seat = seat; last = last; counts = counts }

-- the moment of a request is what the clock shows for it, or that of the request before where the clock has gone back
pub record IsShown (shows : ℕ → Type 0) (last next : ℕ) : Type 0 where
  pub seen : ℕ
  pub shown : shows seen
  pub later : next ≡ max seen last

-- the station answers at that moment, unless it is out of memory: the request and its answer go to its one history then
pub record ActsWhenShown (shows : ℕ → Type 0) (old new : Asker) (request : Request) (outcome : Result Reply SeatSpent) : Type 0 where
  pub clock : IsShown shows old.last new.last
  pub least : 1 ≤ new.last
  pub most : new.last ≤ 2 ^ 40
  pub acts : ActsBy (trimmed old.seat) new.seat new.last request outcome
  pub adds : AddsReply old.seat.mark new.seat.mark new.last request outcome
  pub answered : IfOk outcome (λ reply. (reply ≡ OutOfMemory) ⊎ IsAnswer (trimmed old.seat).mark.number new.last request reply)

-- one is added to a counter, or nothing where the seat has added 2^40 times
abbrev pub CountsOne : Counter → SeatView → SeatView → Type 0
CountsOne counter old new = (new ≡ added counter old) ⊎ ((adds_of old ≡ most_adds) × (new ≡ old))

-- a request is answered, and counted
pub record AnswersCounted (shows : ℕ → Type 0) (old new : Asker) (request : Request) (reply : Reply) : Type 0 where
  pub acts : ActsWhenShown shows old new request (Ok reply)
  pub counted : CountsOne Requests old.counts new.counts

-- a spent seat answers nothing
pub record RefusesCounted (shows : ℕ → Type 0) (old new : Asker) (request : Request) (spent : SeatSpent) : Type 0 where
  pub acts : ActsWhenShown shows old new request (Err spent)
  pub counted : CountsOne Requests old.counts new.counts

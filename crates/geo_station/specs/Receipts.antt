-- What stands behind an answer of a station: a site whose history leads to it, at which the seat's event comes to this answer.
use Rattle.std.specs.Prelude.{◌≡◌, ◌⊎◌, ℕ, Bool, false, List, Option, None, map, option_map, Vec, Result, Ok, Err, IfOk}
use Rattle.std.specs.declared.alloc.AllocError.{AllocError}
use Rattle.std.specs.declared.alloc.Global.{Global}
use Rattle.geo_delta.specs.declared.parcel.Parcel.{Parcel}
use Rattle.geo_requests.specs.declared.request.Request.{Request}
use Rattle.geo_requests.specs.declared.reply.Reply.{Reply}
use Rattle.geo_site.specs.declared.exchange.Taken.{Taken}
use Rattle.geo_site.specs.declared.fill.Filled.{Filled}
use Rattle.geo_site.specs.declared.refusal.SendError.{SendError}
use Rattle.geo_site.specs.declared.refusal.TakeError.{TakeError}
use Rattle.geo_site.specs.declared.refusal.TakeError.TheVariants as takes
use Rattle.geo_site.specs.Fills.{IsFirstMissing, AreFirstMissing}
use Rattle.geo_site.specs.Sites.{state_in}
use Rattle.geo_values.specs.Stock.{with_digest}
use Rattle.geo_history.specs.Keeping.{Story, IsKept, is_flush_due, ActsFor, DoesNothing, TickForDoes, SendForDoes, TakeForDoes, RefusedFor, FillForDoes, RetireForDoes}
use Rattle.geo_station.specs.declared.desk.Unmade.{Unmade}
use Rattle.geo_station.specs.declared.missing.Missing.{Missing}
use Rattle.geo_station.specs.declared.refusal.CallError.{CallError}
use Rattle.geo_station.specs.declared.refusal.CallError.TheVariants.{SeatSpent, Site}
use Rattle.geo_station.specs.declared.refusal.Returned.{Returned}

-- a due flush is carried out for a seat, if there is one, and then its request is answered
pub record AnswersFrom (old new : Story) (seat now : ℕ) (request : Request) (replies : Reply × Reply) : Type 0 where
  pub flushed : Bool
  pub mid : Story
  pub flush : TickForDoes old mid seat now (Ok flushed)
  pub undue : is_flush_due mid now ≡ false
  pub acts : ActsFor mid new seat now request replies

-- nothing is done but a due flush, if there is one
pub record RestsFrom (old new : Story) (seat now : ℕ) : Type 0 where
  pub mid : Story
  pub first : DoesNothing old mid seat now
  pub then : DoesNothing mid new seat now

abbrev pub AnswersFor : Story → Story → ℕ → ℕ → Request → Result (Reply × Reply) Unmade → Type 0
AnswersFor old new seat now request (Ok replies) = AnswersFrom old new seat now request replies
AnswersFor old new seat now request (Err why) = RestsFrom old new seat now

-- a parcel is made for a seat, or refused
abbrev pub SendsFrom : Story → Story → ℕ → ℕ → Result (Parcel × Parcel) (CallError SendError) → Type 0
SendsFrom old new seat to (Ok parcels) = SendForDoes old new seat to (Ok parcels)
SendsFrom old new seat to (Err SeatSpent) = new ≡ old
SendsFrom old new seat to (Err (Site why)) = SendForDoes old new seat to (Err why)

-- a parcel is taken for a seat, or refused
abbrev pub ReturnsFrom : Story → Story → ℕ → Parcel → Returned → CallError TakeError → Type 0
ReturnsFrom old new seat parcel returned SeatSpent = new ≡ old
ReturnsFrom old new seat parcel returned (Site why) =
    ((new ≡ old) × (why ≡ takes.Memory)) ⊎ RefusedFor old new seat parcel (record { why = why; parcel = returned.parcel }) why

abbrev pub TakesFrom : Story → Story → ℕ → Parcel → Result Taken Returned → Type 0
TakesFrom old new seat parcel (Ok taken) = TakeForDoes old new seat parcel (Ok taken)
TakesFrom old new seat parcel (Err returned) = ReturnsFrom old new seat parcel returned returned.why

-- bytes are offered for a seat; where the seat is spent, or memory was wanted, nothing is done
abbrev pub FillsFrom : Story → Story → ℕ → List ℕ → List ℕ → Result Filled (CallError AllocError) → Type 0
FillsFrom old new seat key bytes (Ok filled) = FillForDoes old new seat key bytes (Ok filled)
FillsFrom old new seat key bytes (Err SeatSpent) = new ≡ old
FillsFrom old new seat key bytes (Err (Site refused)) = (new ≡ old) ⊎ FillForDoes old new seat key bytes (Err refused)

-- the same, from a lawful history on, where what comes behind it under the same hold of the lock is not told
abbrev pub AnswersOnce : Story → ℕ → ℕ → Request → Result (Reply × Reply) Unmade → Type 0
AnswersOnce old seat now request outcome = ∥ IsKept old ∥₁ × ((new : Story) × AnswersFor old new seat now request outcome)

abbrev pub SendsOnce : Story → ℕ → ℕ → Result (Parcel × Parcel) (CallError SendError) → Type 0
SendsOnce old seat to outcome = ∥ IsKept old ∥₁ × ((new : Story) × SendsFrom old new seat to outcome)

abbrev pub TakesOnce : Story → ℕ → Parcel → Result Taken Returned → Type 0
TakesOnce old seat parcel outcome = ∥ IsKept old ∥₁ × ((new : Story) × TakesFrom old new seat parcel outcome)

abbrev pub FillsOnce : Story → ℕ → List ℕ → List ℕ → Result Filled (CallError AllocError) → Type 0
FillsOnce old seat key bytes outcome = ∥ IsKept old ∥₁ × ((new : Story) × FillsFrom old new seat key bytes outcome)

abbrev pub RetiresOnce : Story → ℕ → ℕ → Bool → Type 0
RetiresOnce old seat other fresh = ∥ IsKept old ∥₁ × ((new : Story) × RetireForDoes old new seat other (Ok fresh))

-- at a site whose history leads to it a seat's request has this answer, after a due flush
pub record IsAnswer (seat now : ℕ) (request : Request) (reply : Reply) : Type 0 where
  pub old : Story
  pub new : Story
  pub lawful : ∥ IsKept old ∥₁
  pub answers : AnswersFrom old new seat now request (reply, reply)

-- this comes of bytes that it offers
pub record IsFilling (seat : ℕ) (key bytes : List ℕ) (filled : Filled) : Type 0 where
  pub old : Story
  pub new : Story
  pub lawful : ∥ IsKept old ∥₁
  pub fills : FillForDoes old new seat key bytes (Ok filled)

-- and this of holding another site for gone for good
pub record IsRetirement (seat other : ℕ) (fresh : Bool) : Type 0 where
  pub old : Story
  pub new : Story
  pub lawful : ∥ IsKept old ∥₁
  pub retires : RetireForDoes old new seat other (Ok fresh)

-- this is what such a site lacks of the least key above another, and of the least keys, so many at most
pub record LacksLeast (now : ℕ) (after : Option (List ℕ)) (result : Result (Option Missing) AllocError) : Type 0 where
  pub at : Story
  pub lawful : ∥ IsKept at ∥₁
  pub first : IfOk result (λ missing. IsFirstMissing (state_in at.site) now after (option_map (λ m. m.key) missing))

pub record LacksFirst (now most : ℕ) (result : Result (Vec Missing Global) AllocError) : Type 0 where
  pub at : Story
  pub lawful : ∥ IsKept at ∥₁
  pub first : IfOk result (λ lacked. AreFirstMissing (state_in at.site) now None most (map (λ m. m.key) lacked.items))

-- and this what it holds of a key, where that has a SHA-256
pub record HoldsOf (key digest : List ℕ) (result : Result (Option (Vec ℕ Global)) AllocError) : Type 0 where
  pub at : Story
  pub lawful : ∥ IsKept at ∥₁
  pub got : IfOk result (λ offered. option_map (λ v. v.items) offered ≡ with_digest digest ((state_in at.site).stock.held key))

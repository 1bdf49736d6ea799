-- What comes over a link until it is closed, and what becomes of it.
use Rattle.std.specs.Prelude.{◌≡◌, ◌≢◌, ◌⊎◌, ℕ, ◌+◌, min, Bool, true, false, if◌then◌else◌, List, [], ◌∷◌, Option, None, Some, Result}
use Rattle.std.specs.Prelude.{Ok, Err}
use Rattle.std.specs.Option.{IfSome}
use Rattle.sha2.specs.Sha256.{sha256}
use Rattle.geo_delta.specs.declared.parcel.Parcel.{Parcel}
use Rattle.geo_frame.specs.declared.message.Message.{Message}
use Rattle.geo_frame.specs.declared.message.Message.TheVariants as message
use Rattle.geo_frame.specs.Payloads.{Payload, Wanted, PayloadInRange, payload_of, wanted}
use Rattle.geo_frame.specs.Payloads.Payload.{Tells, Asks, Offers}
use Rattle.geo_gossip.specs.declared.receiving.Ask.{Ask}
use Rattle.geo_gossip.specs.Rounds.{emptied}
use Rattle.geo_link.specs.declared.fault.LinkError.{LinkError}
use Rattle.geo_link.specs.declared.fault.LinkError.TheVariants as link
use Rattle.geo_site.specs.declared.exchange.Taken.{Taken}
use Rattle.geo_station.specs.Calls.{TakesBy}
use Rattle.geo_station.specs.Seats.{Seated}
use Rattle.geo_station.specs.declared.refusal.Returned.{Returned}

-- the ask of one that came
abbrev pub wanted_by : Ask → Wanted
wanted_by ask = wanted ask.from ask.to ask.sites ask.key ask.digest

-- back from where it goes
abbrev pub turned : Wanted → Wanted
turned w = record w { route = record { from = w.route.to; to = w.route.from; sites = w.route.sites } }

abbrev pub IsAsk : Payload → Type 0
IsAsk (Tells parcel) = ⊥
IsAsk (Asks w) = Unit {0}
IsAsk (Offers w bytes) = ⊥

-- an offer answers an ask: it goes back, for the same key and SHA-256, with bytes that have it or with none
abbrev pub Answers : Payload → Payload → Type 0
Answers (Tells parcel) offer = ⊥
Answers (Asks w) (Tells parcel) = ⊥
Answers (Asks w) (Asks v) = ⊥
Answers (Asks w) (Offers v bytes) = (v ≡ turned w) × IfSome bytes (λ b. sha256 b ≡ w.digest)
Answers (Offers w bytes) offer = ⊥

-- a message is put, or could not be, for another reason than want of memory
abbrev pub PutsOr : {K : Type 0} → (K → Message → K → Type 0) → (K → Message → LinkError → K → Type 0) → Message → Option LinkError → K → K
    → Type 0
PutsOr puts put_fails m None old new = puts old m new
PutsOr puts put_fails m (Some why) old new = put_fails old m why new × (why ≢ link.Memory)

-- an ask is answered
pub record Offered {K : Type 0} (puts : K → Message → K → Type 0) (put_fails : K → Message → LinkError → K → Type 0) (ask : Payload)
    (failed : Option LinkError) (old new : K) : Type 0 where
  pub offer : Message
  pub answers : Answers ask (payload_of offer)
  pub put : PutsOr puts put_fails offer failed old new

-- there is no memory for the answer to an ask: for the bytes, or on the link
abbrev pub LacksMemory : {K : Type 0} → (K → Message → LinkError → K → Type 0) → Payload → K → K → Type 0
LacksMemory put_fails ask old new = (new ≡ old) ⊎ ((offer : Message) × Answers ask (payload_of offer) × put_fails old offer link.Memory new)

-- what a get brings: a parcel, with what the station answers to it; an ask, with why its offer could not be put, where it could not;
-- a message that is neither, or a fault that does not end the link
pub data Came : Type 0 where
  Got : (parcel : Parcel) (answer : Result Taken Returned) → Came
  Asked : (ask : Message) (failed : Option LinkError) → Came
  Passed : (message : Message) → Came
  Missed : (why : LinkError) → Came

-- no parcel, and no ask of two of the sites
abbrev pub IsPassed : Payload → Type 0
IsPassed (Tells parcel) = ⊥
IsPassed (Asks w) = PayloadInRange (Asks w) → ⊥
IsPassed (Offers w bytes) = Unit {0}

-- the station is asked once to take a parcel, an ask is answered, and nothing is done where another message comes
abbrev pub Becomes : {K : Type 0} → (K → Message → K → Type 0) → (K → Message → LinkError → K → Type 0) → Came → Message → K → K → Seated
    → Seated → Type 0
Becomes puts put_fails (Got parcel answer) m old new seat after =
    (m ≡ message.Parcel parcel) × (new ≡ old) × TakesBy (emptied seat) after parcel answer
Becomes puts put_fails (Asked ask failed) m old new seat after =
    (m ≡ ask) × Offered puts put_fails (payload_of ask) failed old new × (after ≡ seat)
Becomes puts put_fails (Passed other) m old new seat after = (m ≡ other) × IsPassed (payload_of other) × (new ≡ old) × (after ≡ seat)
Becomes puts put_fails (Missed why) m old new seat after = ⊥

-- a message is got and becomes this, or nothing is got, and the station is not asked
abbrev pub Hears : {K : Type 0} → (K → Message → K → Type 0) → (K → Message → K → Type 0) → (K → Message → LinkError → K → Type 0)
    → (K → LinkError → K → Type 0) → Came → K → K → Seated → Seated → Type 0
Hears puts gets put_fails get_fails (Got parcel answer) old new seat after =
    gets old (message.Parcel parcel) new × TakesBy (emptied seat) after parcel answer
Hears {K} puts gets put_fails get_fails (Asked ask failed) old new seat after =
    (mid : K) × gets old ask mid × Offered puts put_fails (payload_of ask) failed mid new × (after ≡ seat)
Hears puts gets put_fails get_fails (Passed other) old new seat after = gets old other new × IsPassed (payload_of other) × (after ≡ seat)
Hears puts gets put_fails get_fails (Missed why) old new seat after = get_fails old why new × (why ≢ link.Closed) × (after ≡ seat)

-- one after the other, in the order in which they come
abbrev pub HearsAll : {K : Type 0} → (K → Message → K → Type 0) → (K → Message → K → Type 0) → (K → Message → LinkError → K → Type 0)
    → (K → LinkError → K → Type 0) → List Came → K → K → Seated → Seated → Type 0
HearsAll puts gets put_fails get_fails [] old new seat after = (new ≡ old) × (after ≡ seat)
HearsAll {K} puts gets put_fails get_fails (one ∷ more) old new seat after =
    (mid : K) × (between : Seated) × Hears puts gets put_fails get_fails one old mid seat between
    × HearsAll puts gets put_fails get_fails more mid new between after

-- no more is heard: the link is closed, or there is no memory to answer an ask
abbrev pub Ends : {K : Type 0} → (K → Message → K → Type 0) → (K → Message → LinkError → K → Type 0) → (K → LinkError → K → Type 0) → K → K
    → Type 0
Ends {K} gets put_fails get_fails old new = get_fails old link.Closed new
    ⊎ ((ask : Message) × IsAsk (payload_of ask) × (mid : K) × gets old ask mid × LacksMemory put_fails (payload_of ask) mid new)

abbrev pub is_taken : Came → Bool
is_taken (Got parcel (Ok told)) = true
is_taken (Got parcel (Err returned)) = false
is_taken (Asked ask failed) = false
is_taken (Passed message) = false
is_taken (Missed why) = false

-- the greatest number of 64 bits, at which a count stays
abbrev pub most_counted : ℕ
most_counted = 18446744073709551615

abbrev pub count_one : ℕ → Came → ℕ
count_one count one = if is_taken one then min (count + 1) most_counted else count

-- how many were taken, behind so many
abbrev pub count_taken : ℕ → List Came → ℕ
count_taken count [] = count
count_taken count (one ∷ more) = count_taken (count_one count one) more

-- all that comes is heard, until no more is
pub record HearsOut {K : Type 0} (puts gets : K → Message → K → Type 0) (put_fails : K → Message → LinkError → K → Type 0)
    (get_fails : K → LinkError → K → Type 0) (old new : K) (seat after : Seated) (count : ℕ) : Type 0 where
  pub came : List Came
  pub last : K
  pub heard : HearsAll puts gets put_fails get_fails came old last seat after
  pub ends : Ends gets put_fails get_fails last new
  pub counted : count ≡ count_taken 0 came

-- The connections of one thread, and the turns that a pass gives them.
use Rattle.std.specs.Prelude.{◌≡◌, ◌≢◌, ◌⊎◌, ℕ, ◌+◌, List, [], ◌∷◌, ◌++◌, take, drop, Option, None, Some, IsSome, option_map}
use Rattle.std.specs.List.{Contains}
use Rattle.slab.specs.Slab.{Slab, get}
use Rattle.geo_requests.specs.declared.reply.Reply.{Reply}
use Rattle.geo_requests.specs.declared.request.Request.{Request}
use Rattle.geo_crowd.specs.Carrying.{Begins, Carriage, MayGoOn, MayWrite, Stands}
use Rattle.geo_crowd.specs.Listing.{StandsIn}
use Rattle.geo_crowd.specs.Standings.{Sums, IsNothing, IsSum}
use Rattle.geo_crowd.specs.declared.crowd.Crowd.{Crowd}
use Rattle.geo_crowd.specs.declared.passed.Passed.{Passed}
use Rattle.geo_crowd.specs.declared.polling.Ready.{Ready}
use Rattle.geo_crowd.specs.declared.roster.Member.{Member}
use Rattle.geo_crowd.specs.declared.standing.Standing.{Standing}
use Rattle.geo_crowd.specs.declared.standing.Standing.TheVariants.{Again, Waits, Over}
use Rattle.geo_socket.specs.declared.stream.Stream.{Ghosts}

abbrev pub carried_in : {S : Type 0} → Slab (Member S) → ℕ → Option Carriage
carried_in members number = option_map (λ m. m.carried) (get members number)

-- the connection that stands under each number
abbrev pub at : {S : Type 0} {g : Ghosts S} → Crowd S g → ℕ → Option Carriage
at crowd = carried_in crowd.roster.members

-- the numbers of those that have a turn in the next pass, in this order
abbrev pub due : {S : Type 0} {g : Ghosts S} → Crowd S g → List ℕ
due crowd = crowd.listed.items

-- each number has what it had
abbrev pub Stand : (ℕ → Option Carriage) → (ℕ → Option Carriage) → Type 0
Stand old new = (number : ℕ) → new number ≡ old number

-- each other number has
abbrev pub OthersStand : ℕ → (ℕ → Option Carriage) → (ℕ → Option Carriage) → Type 0
OthersStand number old new = (other : ℕ) → other ≢ number → new other ≡ old other

-- a connection that is over is let go; any other stays
abbrev pub left_after : Standing → Carriage → Option Carriage
left_after Again has = Some has
left_after Waits has = Some has
left_after (Over outcome) has = None

-- no connection stands under a number, and nothing is done
abbrev pub IsNotThere : ℕ → (ℕ → Option Carriage) → (ℕ → Option Carriage) → Type 0
IsNotThere number old new = (old number ≡ None) × Stand old new

-- one connection is written and read, and no other is touched
pub record BeginsThere (number : ℕ) (old new : ℕ → Option Carriage) : Type 0 where
  pub had : Carriage
  pub has : Carriage
  pub there : old number ≡ Some had
  pub begins : Begins had has
  pub stays : new number ≡ Some has
  pub others : OthersStand number old new

-- what waits at one connection is answered, and no other is touched
pub record GoesOnThere {S : Type 0} (answers : S → Request → Reply → S → Type 0) (refuses : S → Request → S → Type 0) (number : ℕ)
    (old new : ℕ → Option Carriage) (before after : S) : Type 0 where
  pub had : Carriage
  pub has : Carriage
  pub there : old number ≡ Some had
  pub goes : MayGoOn answers refuses had has before after
  pub stays : new number ≡ Some has
  pub others : OthersStand number old new

-- one connection is written, and let go where that was its last turn; no other is touched
pub record EndsThere (number : ℕ) (standing : Standing) (old new : ℕ → Option Carriage) : Type 0 where
  pub had : Carriage
  pub has : Carriage
  pub there : old number ≡ Some had
  pub last : MayWrite had has
  pub stands : Stands standing has
  pub leaves : new number ≡ left_after standing has
  pub others : OthersStand number old new

abbrev pub BeginsAt : ℕ → (ℕ → Option Carriage) → (ℕ → Option Carriage) → Type 0
BeginsAt number old new = IsNotThere number old new ⊎ BeginsThere number old new

abbrev pub GoesOnAt : {S : Type 0} → (S → Request → Reply → S → Type 0) → (S → Request → S → Type 0) → ℕ → (ℕ → Option Carriage)
    → (ℕ → Option Carriage) → S → S → Type 0
GoesOnAt answers refuses number old new before after =
    (IsNotThere number old new × (after ≡ before)) ⊎ GoesOnThere answers refuses number old new before after

abbrev pub EndsAt : ℕ → Option Standing → (ℕ → Option Carriage) → (ℕ → Option Carriage) → Type 0
EndsAt number None old new = IsNotThere number old new
EndsAt number (Some standing) old new = EndsThere number standing old new

-- the turn of each of these begins, one after the other
abbrev pub BeginAll : List ℕ → (ℕ → Option Carriage) → (ℕ → Option Carriage) → Type 0
BeginAll [] old new = Stand old new
BeginAll (number ∷ numbers) old new = (mid : ℕ → Option Carriage) × BeginsAt number old mid × BeginAll numbers mid new

-- what waits at each of these is answered, one after the other
abbrev pub GoOnAll : {S : Type 0} → (S → Request → Reply → S → Type 0) → (S → Request → S → Type 0) → List ℕ → (ℕ → Option Carriage)
    → (ℕ → Option Carriage) → S → S → Type 0
GoOnAll answers refuses [] old new before after = Stand old new × (after ≡ before)
GoOnAll {S = S} answers refuses (number ∷ numbers) old new before after =
    (mid : ℕ → Option Carriage) × (between : S) × GoesOnAt answers refuses number old mid before between
    × GoOnAll answers refuses numbers mid new between after

-- the turn of each of these ends, one after the other, and all that comes to these sums
abbrev pub EndAll : List ℕ → Sums → (ℕ → Option Carriage) → (ℕ → Option Carriage) → Type 0
EndAll [] sums old new = IsNothing sums × Stand old new
EndAll (number ∷ numbers) sums old new =
    (mid : ℕ → Option Carriage) × (standing : Option Standing) × (more : Sums)
    × EndsAt number standing old mid × IsSum number standing more sums × EndAll numbers more mid new

-- each of these has one turn, which comes to these sums: first all are written and read, then what waits is answered, and at last all
-- are written
pub record Passes {S : Type 0} (answers : S → Request → Reply → S → Type 0) (refuses : S → Request → S → Type 0) (numbers : List ℕ)
    (sums : Sums) (old new : ℕ → Option Carriage) (before after : S) : Type 0 where
  pub mid : ℕ → Option Carriage
  pub far : ℕ → Option Carriage
  pub begin : BeginAll numbers old mid
  pub goes : GoOnAll answers refuses numbers mid far before after
  pub ends : EndAll numbers sums far new

-- each that was told to be ready, and is there, has a turn
abbrev pub AllHeard : List Ready → (ℕ → Option Carriage) → List ℕ → Type 0
AllHeard told old turns = (ready : Ready) → Contains told ready → IsSome (old ready.number) → StandsIn turns ready.number

-- what two passes come to, between which others waited
pub record IsBoth (first second : Sums) (waiting : List ℕ) (sums : Sums) : Type 0 where
  pub later : sums.later ≡ waiting ++ (first.later ++ second.later)
  pub ended : sums.ended ≡ first.ended + second.ended
  pub faults : sums.faults ≡ first.faults + second.faults

-- a round: those that were told to be ready have their turns, each of which is there, behind them the first of those that were due, and
-- the others wait
pub record Rounds {S : Type 0} (answers : S → Request → Reply → S → Type 0) (refuses : S → Request → S → Type 0) (told : List Ready)
    (due : List ℕ) (sums : Sums) (old new : ℕ → Option Carriage) (before after : S) : Type 0 where
  pub more : List ℕ
  pub mid : ℕ → Option Carriage
  pub between : S
  pub first : Sums
  pub second : Sums
  pub heard : AllHeard told old (more ++ due)
  pub passes : Passes answers refuses more first old mid before between
  pub next : Passes answers refuses (take 1 due) second mid new between after
  pub both : IsBoth first second (drop 1 due) sums

-- the sums of a pass, as it tells them
abbrev pub sums_of : {S : Type 0} {g : Ghosts S} → Crowd S g → Passed → Sums
sums_of crowd passed = record { later = due crowd; ended = passed.ended; faults = passed.faults }

-- those of a pass over the numbers behind the first so many
abbrev pub sums_behind : {S : Type 0} {g : Ghosts S} → ℕ → Crowd S g → Passed → Sums
sums_behind from crowd passed = record { later = drop from (due crowd); ended = passed.ended; faults = passed.faults }

-- the first number that is due has a turn, behind a pass
pub record HasNext {S : Type 0} (answers : S → Request → Reply → S → Type 0) (refuses : S → Request → S → Type 0) (due : List ℕ)
    (first : Passed) (sums : Sums) (old new : ℕ → Option Carriage) (before after : S) : Type 0 where
  pub second : Sums
  pub passes : Passes answers refuses (take 1 due) second old new before after
  pub later : sums.later ≡ drop 1 due ++ second.later
  pub ended : sums.ended ≡ first.ended + second.ended
  pub faults : sums.faults ≡ first.faults + second.faults

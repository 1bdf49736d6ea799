-- A connection that a thread carries beside others: what it read and wrote, what it owes, and how it ends.
use Rattle.std.specs.Prelude.{◌≡◌, ◌≢◌, ℕ, ◌≤◌, true, false, List, [], ◌++◌, length, Option, None, Some, is_none, Result, Ok, Err, ◌⊎◌}
use Rattle.std.specs.Io.KnownBytes.{Appends, Consumes, IsAtEnd}
use Rattle.geo_grammar.specs.Protocol.{items_of}
use Rattle.geo_grammar.specs.declared.item.Item.{Item}
use Rattle.geo_requests.specs.declared.reply.Reply.{Reply}
use Rattle.geo_requests.specs.declared.request.Request.{Request}
use Rattle.geo_grammar.specs.Quitting.{until_quit}
use Rattle.geo_dialogue.specs.Closings.{StaysOpen}
use Rattle.geo_dialogue.specs.Connections.{Connection, Comes, GoesOn, GoesFar, BreaksOff, IsEnd, IsSettled, new_connection}
use Rattle.geo_dialogue.specs.Exchanges.{Exchange, items_in, text_of}
use Rattle.geo_dialogue.specs.Sessions.{Sends}
use Rattle.geo_dialogue.specs.declared.end.SessionEnd.{SessionEnd}
use Rattle.geo_dialogue.specs.declared.end.SessionEnd.TheVariants.{EndOfInput}
use Rattle.geo_dialogue.specs.declared.fault.SessionFault.{SessionFault}
use Rattle.geo_dialogue.specs.declared.fault.SessionFault.TheVariants.{Read, Write, Memory}
use Rattle.geo_socket.specs.Streams.{Was}
use Rattle.geo_crowd.specs.declared.carried.Came.{Came}
use Rattle.geo_crowd.specs.declared.carried.Came.TheVariants as came
use Rattle.geo_crowd.specs.declared.carried.Sent.{Sent}
use Rattle.geo_crowd.specs.declared.carried.Sent.TheVariants as sent
use Rattle.geo_crowd.specs.declared.standing.Standing.{Standing}
use Rattle.geo_crowd.specs.declared.standing.Standing.TheVariants.{Again, Waits, Over}
use Rattle.geo_socket.specs.declared.stream.Given.{Given}
use Rattle.geo_socket.specs.declared.stream.Given.TheVariants as given
use Rattle.geo_socket.specs.declared.stream.Accepted.{Accepted}
use Rattle.geo_socket.specs.declared.stream.Accepted.TheVariants as accepted

-- how a connection ended, or by which fault
abbrev pub Outcome : Type 0
Outcome = Result SessionEnd SessionFault

-- a client that is owed more bytes than that is read no further
abbrev pub most_owed : ℕ
most_owed = 1048576

-- what its client sends still, what was written to the client, what the last read gave and the last write told, where these are known;
-- its session; and its outcome, once it has one
pub record Carriage : Type 0 where
  pub left : Option (List ℕ)
  pub written : Option (List ℕ)
  pub given : Option Given
  pub accepted : Option Accepted
  pub session : Connection
  pub outcome : Option Outcome

-- the connection of a stream, of which so much is left and so much was written, and so much is known
abbrev pub new_carriage : Option (List ℕ) → Option (List ℕ) → Option Given → Option Accepted → Carriage
new_carriage left written given accepted =
    record { left = left; written = written; given = given; accepted = accepted; session = new_connection; outcome = None }

-- of all that came from the client a beginning is answered, up to a quit, and one answer more at most was given and is lost; what was
-- written to the client since the start, and what it is owed behind that, is the text of these answers, but for what is cut off at its end
pub record Serves (written : Option (List ℕ)) (all owed : List ℕ) : Type 0 where
  pub took : List ℕ
  pub done : List Exchange
  pub lost : List Exchange
  pub rest : List Item
  pub cut : List ℕ
  pub few_lost : length lost ≤ 1
  pub acted : until_quit (items_of all) ≡ items_in (done ++ lost) ++ rest
  pub said : (took ++ owed) ++ cut ≡ text_of done
  pub start : Option (List ℕ)
  pub wrote : Appends start written took

-- nothing is lost or cut off, and what is not answered waits for it
pub record IsWhole (c : Connection) (lost : List Exchange) (rest : List Item) (cut : List ℕ) : Type 0 where
  pub none_lost : lost ≡ []
  pub none_cut : cut ≡ []
  pub waits : rest ≡ c.waiting

-- a fault ended it, and nothing waits
pub record IsBroken (c : Connection) (outcome : Option Outcome) : Type 0 where
  pub fault : SessionFault
  pub ended : outcome ≡ Some (Err fault)
  pub closed : c.goes_on ≡ false
  pub settled : IsSettled c

-- what a carried connection keeps: while its session goes on nothing that came ended it, and that it does while there is no outcome;
-- and but for a fault all is answered and said, or waits
pub record IsCarried (written : Option (List ℕ)) (c : Connection) (outcome : Option Outcome) : Type 0 where
  pub serves : Serves written c.read (c.owed ++ c.untold)
  pub stays : c.goes_on ≡ true → StaysOpen (items_of c.read)
  pub open_on : outcome ≡ None → c.goes_on ≡ true
  pub whole : IsWhole c serves.lost serves.rest serves.cut ⊎ IsBroken c outcome

-- the outcome that a read brings
abbrev pub outcome_by : Came → Option Outcome
outcome_by (came.Bytes None full) = None
outcome_by (came.Bytes (Some end) full) = Some (Ok end)
outcome_by (came.Broken fault) = Some (Err fault)
outcome_by came.Later = None
outcome_by came.End = Some (Ok EndOfInput)
outcome_by came.Failed = Some (Err Read)

-- what a read brought, by what came of it
abbrev pub Brings : Came → List ℕ → Connection → Connection → Type 0
Brings (came.Bytes end full) piece old new = Comes piece old new × IsEnd (items_of new.read) end × (new.goes_on ≡ is_none end)
Brings (came.Broken fault) piece old new = (fault ≡ Memory) × (new ≡ record old { goes_on = false })
Brings came.Later piece old new = (piece ≡ []) × (new ≡ old)
Brings came.End piece old new = (piece ≡ []) × (new ≡ old)
Brings came.Failed piece old new = (piece ≡ []) × (new ≡ old)

-- what the stream gave then, and whether it has more
abbrev pub ComesOf : Came → Option Given → Option (List ℕ) → Type 0
ComesOf (came.Bytes end full) told left = (count : ℕ) × Was told (given.Bytes count)
ComesOf (came.Broken fault) told left = (count : ℕ) × Was told (given.Bytes count)
ComesOf came.Later told left = Was told given.Later
ComesOf came.End told left = Was told given.End × IsAtEnd left
ComesOf came.Failed told left = Was told given.Failed

-- a read, and what it brought
pub record Reads (result : Came) (had has : Option (List ℕ)) (told : Option Given) (old new : Connection) : Type 0 where
  pub piece : List ℕ
  pub came : Consumes had has piece
  pub of : ComesOf result told has
  pub brings : Brings result piece old new

-- it may be read: it has no outcome, nothing waits, and it is owed no more than so much
pub record MayRead (v : Carriage) : Type 0 where
  pub no_outcome : v.outcome ≡ None
  pub goes_on : v.session.goes_on ≡ true
  pub settled : IsSettled v.session
  pub owes : length v.session.owed ≤ most_owed

-- it is read once, which brings the outcome that came, if one came
pub record Hears (old new : Carriage) : Type 0 where
  pub may : MayRead old
  pub result : Came
  pub reads : Reads result old.left new.left new.given old.session new.session
  pub outcome : new.outcome ≡ outcome_by result
  pub written : new.written ≡ old.written
  pub accepted : new.accepted ≡ old.accepted

-- something waits for an answer, or for its text, that can still be written
pub record CanGoOn (v : Carriage) : Type 0 where
  pub waits : IsSettled v.session → ⊥
  pub writable : v.outcome ≢ Some (Err Write)

-- nothing waits, or nothing can be written
abbrev pub IsStill : Carriage → Type 0
IsStill v = IsSettled v.session ⊎ (v.outcome ≡ Some (Err Write))

-- a fault is the outcome, whatever was before
abbrev pub outcome_gone : {T : Type 0} → Result T SessionFault → Option Outcome → Option Outcome
outcome_gone (Ok done) outcome = outcome
outcome_gone (Err fault) outcome = Some (Err fault)

-- what waits is answered as far as it goes, and the outcome stays
pub record IsGoneOn {S : Type 0} (answers : S → Request → Reply → S → Type 0) (old new : Carriage) (before after : S) : Type 0 where
  pub goes : GoesOn answers old.session new.session before after
  pub far : GoesFar new.session
  pub outcome : new.outcome ≡ old.outcome

-- or up to a fault, which is the outcome
pub record IsBrokenOff {S : Type 0} (answers : S → Request → Reply → S → Type 0) (refuses : S → Request → S → Type 0) (old new : Carriage)
    (before after : S) : Type 0 where
  pub fault : SessionFault
  pub breaks : BreaksOff answers refuses fault old.session new.session before after
  pub outcome : new.outcome ≡ Some (Err fault)

-- what waits is answered; nothing is read or written
pub record Proceeds {S : Type 0} (answers : S → Request → Reply → S → Type 0) (refuses : S → Request → S → Type 0) (old new : Carriage)
    (before after : S) : Type 0 where
  pub can : CanGoOn old
  pub gone : IsGoneOn answers old new before after ⊎ IsBrokenOff answers refuses old new before after
  pub left : new.left ≡ old.left
  pub written : new.written ≡ old.written
  pub given : new.given ≡ old.given
  pub accepted : new.accepted ≡ old.accepted

-- how writing ends: all that was owed is written, or there is no room for the rest, or a write has failed
abbrev pub SendEnds : Sent → List ℕ → Option Accepted → Type 0
SendEnds sent.All owed told = owed ≡ []
SendEnds sent.Part owed told = Was told accepted.Later
SendEnds sent.Failed owed told = Was told accepted.Failed

-- a write that failed is the outcome, whatever was before; any other leaves it
abbrev pub outcome_after : Sent → Option Outcome → Option Outcome
outcome_after sent.All outcome = outcome
outcome_after sent.Part outcome = outcome
outcome_after sent.Failed outcome = Some (Err Write)

-- a beginning of what is owed is written, and nothing is read
pub record Writes (old new : Carriage) : Type 0 where
  pub result : Sent
  pub ends : SendEnds result new.session.owed new.accepted
  pub outcome : new.outcome ≡ outcome_after result old.outcome
  pub sends : Sends old.session new.session old.written new.written
  pub left : new.left ≡ old.left
  pub given : new.given ≡ old.given

-- it is written, if that is tried
abbrev pub MayWrite : Carriage → Carriage → Type 0
MayWrite old new = (new ≡ old) ⊎ Writes old new

-- it is read, if that is tried
abbrev pub MayHear : Carriage → Carriage → Type 0
MayHear old new = (new ≡ old) ⊎ Hears old new

-- what waits is answered, if something waits that can be written
abbrev pub MayGoOn : {S : Type 0} → (S → Request → Reply → S → Type 0) → (S → Request → S → Type 0) → Carriage → Carriage → S → S → Type 0
MayGoOn answers refuses old new before after =
    (IsStill old × (new ≡ old) × (after ≡ before)) ⊎ Proceeds answers refuses old new before after

-- a turn begins: what is owed is written as far as it goes, and a piece comes
pub record Begins (old new : Carriage) : Type 0 where
  pub mid : Carriage
  pub first : MayWrite old mid
  pub hears : MayHear mid new

-- a turn: what is owed is written as far as it goes, a piece comes, what waits is answered until much is owed, and what is owed then
-- is written
pub record Turns {S : Type 0} (answers : S → Request → Reply → S → Type 0) (refuses : S → Request → S → Type 0) (old new : Carriage)
    (before after : S) : Type 0 where
  pub mid : Carriage
  pub next : Carriage
  pub far : Carriage
  pub first : MayWrite old mid
  pub hears : MayHear mid next
  pub goes : MayGoOn answers refuses next far before after
  pub last : MayWrite far new

-- all that came is answered, and nothing is owed
pub record IsDone (c : Connection) : Type 0 where
  pub settled : IsSettled c
  pub none_owed : c.owed ≡ []

-- it has no outcome, or something is left that can be written
abbrev pub IsUnfinished : Carriage → Type 0
IsUnfinished v = (v.outcome ≡ None) ⊎ ((IsDone v.session → ⊥) × (v.outcome ≢ Some (Err Write)))

-- a connection is over with its outcome, and once all is answered and written, or can be written no more
abbrev pub Stands : Standing → Carriage → Type 0
Stands Again v = IsUnfinished v
Stands Waits v = IsUnfinished v
Stands (Over outcome) v = (v.outcome ≡ Some outcome) × (outcome ≢ Err Write → IsDone v.session)

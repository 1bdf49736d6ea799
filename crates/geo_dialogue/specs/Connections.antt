-- A connection between two reads, and what one piece of its input does.
use Rattle.std.specs.Prelude.{◌≡◌, ◌⊎◌, ℕ, ◌<◌, ◌≤◌, Bool, true, false, List, [], ◌∷◌, ◌++◌, length, Option, Some, None}
use Rattle.geo_grammar.specs.Protocol.{items_of}
use Rattle.geo_grammar.specs.declared.item.Item.{Item}
use Rattle.geo_grammar.specs.declared.item.Item.TheVariants as item
use Rattle.geo_requests.specs.declared.reply.Reply.{Reply}
use Rattle.geo_requests.specs.declared.request.Request.{Request}
use Rattle.geo_grammar.specs.Quitting.{until_quit}
use Rattle.geo_dialogue.specs.Closings.{StaysOpen, end_by}
use Rattle.geo_dialogue.specs.Exchanges.{Exchange, items_in, text_of, count_after, Runs}
use Rattle.geo_dialogue.specs.declared.end.SessionEnd.{SessionEnd}
use Rattle.geo_dialogue.specs.declared.fault.SessionFault.{SessionFault}
use Rattle.geo_dialogue.specs.declared.fault.SessionFault.TheVariants.{Read, Write, Memory, TooManyReads, Spent}

-- where more bytes than that are owed no more are rendered
abbrev pub most_rendered : ℕ
most_rendered = 65536

-- all that came, the items that wait for an answer; of the answers what is to be written next and, behind it, the text that does not
-- stand in memory yet; how often the backend answered, and whether more is taken
pub record Connection : Type 0 where
  pub read : List ℕ
  pub waiting : List Item
  pub owed : List ℕ
  pub untold : List ℕ
  pub answered : ℕ
  pub goes_on : Bool

abbrev pub new_connection : Connection
new_connection = record { read = []; waiting = []; owed = []; untold = []; answered = 0; goes_on = true }

-- all that came is answered, and the text of all answers stands in memory or was written
pub record IsSettled (c : Connection) : Type 0 where
  pub none_waits : c.waiting ≡ []
  pub none_untold : c.untold ≡ []

-- the backend did not answer the first of the items that are left
pub record IsRefused {S : Type 0} (refuses : S → Request → S → Type 0) (left : List Item) (old new : S) : Type 0 where
  pub request : Request
  pub more : List Item
  pub next : left ≡ item.Request request ∷ more
  pub refused : refuses old request new

-- a piece is answered: the items that it brings, up to a quit, by one run of the backend, and their text is owed behind what was
pub record Answered {S : Type 0} (answers : S → Request → Reply → S → Type 0) (piece : List ℕ) (old new : Connection) (before after : S)
    : Type 0 where
  pub exchanges : List Exchange
  pub read : new.read ≡ old.read ++ piece
  pub came : until_quit (items_of (old.read ++ piece)) ≡ items_of old.read ++ items_in exchanges
  pub run : Runs answers before exchanges after
  pub owed : new.owed ≡ old.owed ++ text_of exchanges
  pub answered : new.answered ≡ count_after old.answered exchanges
  pub settled : IsSettled new

-- a piece comes: the items that it brings, up to a quit, wait for their answers
pub record Comes (piece : List ℕ) (old new : Connection) : Type 0 where
  pub came : until_quit (items_of (old.read ++ piece)) ≡ items_of old.read ++ new.waiting
  pub stays : new ≡ record old { read = old.read ++ piece; waiting = new.waiting; goes_on = new.goes_on }

-- items that waited are answered, from the front, by one run of the backend; their text is owed behind what was
pub record GoesOn {S : Type 0} (answers : S → Request → Reply → S → Type 0) (old new : Connection) (before after : S) : Type 0 where
  pub exchanges : List Exchange
  pub came : old.waiting ≡ items_in exchanges ++ new.waiting
  pub run : Runs answers before exchanges after
  pub owed : new.owed ++ new.untold ≡ (old.owed ++ old.untold) ++ text_of exchanges
  pub answered : new.answered ≡ count_after old.answered exchanges
  pub read : new.read ≡ old.read
  pub going : new.goes_on ≡ old.goes_on

-- the end is that which these items bring
abbrev pub IsEnd : List Item → Option SessionEnd → Type 0
IsEnd items (Some end) = end_by items ≡ Some end
IsEnd items None = StaysOpen items

-- why a piece could not be answered whole: memory was wanted, for the text of the last answer or before it; or the backend gave none
abbrev pub BreaksFor : {S : Type 0} → (S → Request → S → Type 0) → SessionFault → List Exchange → List Item → S → S → Type 0
BreaksFor refuses Read lost left mid new = ⊥
BreaksFor refuses Write lost left mid new = ⊥
BreaksFor refuses Memory lost left mid new = (length lost ≤ 1) × (new ≡ mid)
BreaksFor refuses TooManyReads lost left mid new = ⊥
BreaksFor refuses Spent lost left mid new = (lost ≡ []) × IsRefused refuses left mid new

-- a fault within a piece: the text of all that was answered is owed, but for an answer for which there was no memory, and no more
-- is taken
pub record Broken {S : Type 0} (answers : S → Request → Reply → S → Type 0) (refuses : S → Request → S → Type 0) (fault : SessionFault)
    (piece : List ℕ) (old new : Connection) (before after : S) : Type 0 where
  pub done : List Exchange
  pub lost : List Exchange
  pub left : List Item
  pub mid : S
  pub came : until_quit (items_of (old.read ++ piece)) ≡ items_of old.read ++ (items_in (done ++ lost) ++ left)
  pub run : Runs answers before (done ++ lost) mid
  pub owed : new.owed ≡ old.owed ++ text_of done
  pub answered : new.answered ≡ count_after old.answered (done ++ lost)
  pub closed : new.goes_on ≡ false
  pub settled : IsSettled new
  pub why : BreaksFor refuses fault lost left mid after

-- a text is cut off only where memory was refused for it, and not for another answer
abbrev pub CutsFor : SessionFault → List Exchange → List ℕ → Type 0
CutsFor fault lost cut = (cut ≡ []) ⊎ ((fault ≡ Memory) × (lost ≡ []))

-- a fault while something is to be done: a beginning of the items that wait is answered, the others are dropped, and no more is taken. The
-- text of these answers is owed behind what was, but for an answer for which there was no memory, and but for what is cut off at its end
pub record BreaksOff {S : Type 0} (answers : S → Request → Reply → S → Type 0) (refuses : S → Request → S → Type 0) (fault : SessionFault)
    (old new : Connection) (before after : S) : Type 0 where
  pub done : List Exchange
  pub lost : List Exchange
  pub left : List Item
  pub mid : S
  pub cut : List ℕ
  pub came : old.waiting ≡ items_in (done ++ lost) ++ left
  pub run : Runs answers before (done ++ lost) mid
  pub owed : new.owed ++ cut ≡ (old.owed ++ old.untold) ++ text_of done
  pub answered : new.answered ≡ count_after old.answered (done ++ lost)
  pub read : new.read ≡ old.read
  pub settled : IsSettled new
  pub closed : new.goes_on ≡ false
  pub asks : IsSettled old → ⊥
  pub more : List ℕ
  pub keeps : new.owed ≡ old.owed ++ more
  pub why : BreaksFor refuses fault lost left mid after
  pub cuts : CutsFor fault lost cut

-- it went on as far as it goes: nothing waits, or more is owed than a session renders
abbrev pub GoesFar : Connection → Type 0
GoesFar c = (most_rendered < length c.owed) ⊎ IsSettled c

-- one step that a fault ends, where something was to be done: no text is added
pub record Fails {S : Type 0} (answers : S → Request → Reply → S → Type 0) (refuses : S → Request → S → Type 0) (fault : SessionFault)
    (old new : Connection) (before after : S) : Type 0 where
  pub lost : List Exchange
  pub left : List Item
  pub mid : S
  pub came : old.waiting ≡ items_in lost ++ left
  pub run : Runs answers before lost mid
  pub owed : new.owed ≡ old.owed
  pub answered : new.answered ≡ count_after old.answered lost
  pub read : new.read ≡ old.read
  pub asks : IsSettled old → ⊥
  pub why : BreaksFor refuses fault lost left mid after
  pub cuts : CutsFor fault lost old.untold

-- what a session keeps: no more was sent than there is, and while it goes on nothing that came has ended it
pub record IsSession (read : List ℕ) (sent : ℕ) (text : List ℕ) (goes_on : Bool) : Type 0 where
  pub within : sent ≤ length text
  pub stays : goes_on ≡ true → StaysOpen (items_of read)

-- What a whole session does: what it reads, what the backend answers, what it writes, and where it ends.
use Rattle.std.specs.Prelude.{◌≡◌, ◌⊎◌, ◌≤◌, ◌^◌, ℕ, true, false, Bool, List, [], ◌++◌, length, Option, Result, Ok, Err}
use Rattle.std.specs.Io.KnownBytes.{Appends, Consumes, IsAtEnd}
use Rattle.geo_grammar.specs.Protocol.{items_of}
use Rattle.geo_grammar.specs.declared.item.Item.{Item}
use Rattle.geo_requests.specs.declared.reply.Reply.{Reply}
use Rattle.geo_requests.specs.declared.request.Request.{Request}
use Rattle.geo_grammar.specs.Faults.{has_long_line}
use Rattle.geo_grammar.specs.Quitting.{has_quit, until_quit}
use Rattle.geo_dialogue.specs.Closings.{StaysOpen}
use Rattle.geo_dialogue.specs.Connections.{Connection, IsRefused, BreaksFor}
use Rattle.geo_dialogue.specs.Exchanges.{Exchange, items_in, text_of, Runs}
use Rattle.geo_dialogue.specs.declared.end.SessionEnd.{SessionEnd}
use Rattle.geo_dialogue.specs.declared.end.SessionEnd.TheVariants.{Quit, EndOfInput, LineTooLong}
use Rattle.geo_dialogue.specs.declared.fault.SessionFault.{SessionFault}
use Rattle.geo_dialogue.specs.declared.fault.SessionFault.TheVariants.{Read, Write, Memory, TooManyReads, Spent}

-- a read brings at most that many bytes
abbrev pub longest_piece : ℕ
longest_piece = 262144

-- an input that hasn't ended after that many reads is given up
abbrev pub most_reads : ℕ
most_reads = 2 ^ 48

-- what is written goes out of what is owed, from its front
pub record Sends (old new : Connection) (before after : Option (List ℕ)) : Type 0 where
  pub part : List ℕ
  pub front : old.owed ≡ part ++ new.owed
  pub written : Appends before after part
  pub stays : new ≡ record old { owed = new.owed }

-- where an end is due, by all items that came and by what the reader has left
abbrev pub IsDue : SessionEnd → List Item → Option (List ℕ) → Type 0
IsDue Quit items left = has_quit items ≡ true
IsDue EndOfInput items left = StaysOpen items × IsAtEnd left
IsDue LineTooLong items left = (has_quit items ≡ false) × (has_long_line items ≡ true)

-- a session that ended: the items up to a quit are answered, the replies are those of one run of the backend, and their text is
-- written. What was read is what came before the last read, which ended nothing, and what that brought
pub record Ended {S : Type 0} (answers : S → Request → Reply → S → Type 0) (end : SessionEnd) (old new : S) (had left before after :
    Option (List ℕ)) : Type 0 where
  pub earlier : List ℕ
  pub piece : List ℕ
  pub exchanges : List Exchange
  pub read : Consumes had left (earlier ++ piece)
  pub short : length piece ≤ longest_piece
  pub stays_open : StaysOpen (items_of earlier)
  pub came : items_in exchanges ≡ until_quit (items_of (earlier ++ piece))
  pub run : Runs answers old exchanges new
  pub written : Appends before after (text_of exchanges)
  pub due : IsDue end (items_of (earlier ++ piece)) left

-- all that came is answered and written, and nothing ended the session
pub record AllWritten {S : Type 0} (all : List Item) (lost : List Exchange) (left : List Item) (rest : List ℕ) (mid new : S) : Type 0 where
  pub stays_open : StaysOpen all
  pub none_lost : lost ≡ []
  pub none_left : left ≡ []
  pub none_owed : rest ≡ []
  pub stays : new ≡ mid

-- why a session stopped, by the answer for which there was no memory, the items that were not answered, and what is owed still
abbrev pub StopsFor : {S : Type 0} → (S → Request → S → Type 0) → SessionFault → List ℕ → List Item → List Exchange → List Item → List ℕ
    → S → S → Type 0
StopsFor refuses Read bytes all lost left rest mid new = AllWritten all lost left rest mid new
StopsFor refuses Write bytes all lost left rest mid new = (length lost ≤ 1) × ((new ≡ mid) ⊎ IsRefused refuses left mid new)
StopsFor refuses Memory bytes all lost left rest mid new = (rest ≡ []) × BreaksFor refuses Memory lost left mid new
StopsFor refuses TooManyReads bytes all lost left rest mid new = (most_reads ≤ length bytes) × AllWritten all lost left rest mid new
StopsFor refuses Spent bytes all lost left rest mid new = (rest ≡ []) × BreaksFor refuses Spent lost left mid new

-- a session that a fault ended. The items before the last read are answered and their text is written; of what that brought, up to a
-- quit, a beginning is answered, and of that text a beginning is written
pub record Stopped {S : Type 0} (answers : S → Request → Reply → S → Type 0) (refuses : S → Request → S → Type 0) (fault : SessionFault)
    (old new : S) (had has before after : Option (List ℕ)) : Type 0 where
  pub earlier : List ℕ
  pub piece : List ℕ
  pub said : List Exchange
  pub unsaid : List Exchange
  pub lost : List Exchange
  pub left : List Item
  pub mid : S
  pub part : List ℕ
  pub rest : List ℕ
  pub read : Consumes had has (earlier ++ piece)
  pub short : length piece ≤ longest_piece
  pub stays_open : StaysOpen (items_of earlier)
  pub first : items_in said ≡ items_of earlier
  pub came : until_quit (items_of (earlier ++ piece)) ≡ items_in said ++ (items_in (unsaid ++ lost) ++ left)
  pub run : Runs answers old (said ++ (unsaid ++ lost)) mid
  pub split : text_of unsaid ≡ part ++ rest
  pub written : Appends before after (text_of said ++ part)
  pub why : StopsFor refuses fault (earlier ++ piece) (items_of (earlier ++ piece)) lost left rest mid new

-- whether it is the reader, or the writer, that a session ended for
abbrev pub blames_reader : {T : Type 0} → Result T SessionFault → Bool
blames_reader (Ok end) = false
blames_reader (Err Read) = true
blames_reader (Err Write) = false
blames_reader (Err Memory) = false
blames_reader (Err TooManyReads) = false
blames_reader (Err Spent) = false

abbrev pub blames_writer : {T : Type 0} → Result T SessionFault → Bool
blames_writer (Ok end) = false
blames_writer (Err Read) = false
blames_writer (Err Write) = true
blames_writer (Err Memory) = false
blames_writer (Err TooManyReads) = false
blames_writer (Err Spent) = false

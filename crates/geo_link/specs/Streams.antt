-- A link over two streams of bytes, which carry frames.
use Rattle.std.specs.Prelude.{◌≡◌, ◌≢◌, ◌⊎◌, ◌<◌, ◌≤◌, ℕ, Bool, true, false, List, [], ◌++◌, length, Option, Err}
use Rattle.std.specs.Io.KnownBytes.{Keeps, Appends, Consumes, IsAtEnd, prepend_known}
use Rattle.geo_frame.specs.Payloads.{Payload, PayloadInRange, payload_of}
use Rattle.geo_frame.specs.Reading.{frame_in, length_field}
use Rattle.geo_frame.specs.Spelling.{IsFrameOf, frame_of, longest_frame}
use Rattle.geo_frame.specs.declared.message.Message.{Message}
use Rattle.geo_frame.specs.declared.fault.FrameFault.{FrameFault}
use Rattle.geo_frame.specs.declared.fault.FrameFault.TheVariants.{Short, Magic, Version, Field, Order, Damaged, Trailing}
use Rattle.geo_frame.specs.declared.fault.FrameFault.TheVariants as frame
use Rattle.geo_link.specs.declared.fault.LinkError.{LinkError}
use Rattle.geo_link.specs.declared.fault.LinkError.TheVariants.{Closed, Frame, Io, Memory, TooLong}

-- ---- frames that come

-- the bytes that were read and not taken yet, what the reader has left, and whether it failed
pub record Incoming : Type 0 where
  pub waiting : List ℕ
  pub unread : Option (List ℕ)
  pub failed : Bool

-- what was not taken yet, where it is known
abbrev pub left_in : Incoming → Option (List ℕ)
left_in v = prepend_known v.waiting v.unread

-- more was read, and waits
pub record ReadsOn (old new : Incoming) : Type 0 where
  pub more : List ℕ
  pub waiting : new.waiting ≡ old.waiting ++ more
  pub unread : Consumes old.unread new.unread more

-- a frame of a message comes next, and is taken
pub record TakesFrame (old new : Option (List ℕ)) (m : Payload) : Type 0 where
  pub frame : List ℕ
  pub taken : Consumes old new frame
  pub spelled : IsFrameOf frame m
  pub ranges : PayloadInRange m
  pub most : length frame ≤ longest_frame

-- a head alone, a whole frame, or a beginning at the end of all
abbrev pub IsDue : List ℕ → FrameFault → Option (List ℕ) → Type 0
IsDue came fault behind = ((length came ≡ 9) × (fault ≢ Short)) ⊎ (((9 ≤ length came) × (length came ≡ length_field came))
    ⊎ ((0 < length came) × (fault ≡ Short) × IsAtEnd behind))

-- what comes next begins as no frame does
pub record RefusesFrame (left : Option (List ℕ)) (fault : FrameFault) : Type 0 where
  pub came : List ℕ
  pub behind : Option (List ℕ)
  pub begins : Consumes left behind came
  pub refused : frame_in came ≡ Err fault
  pub due : IsDue came fault behind

-- ---- the link

-- what will come and was not got yet, all that was written, whether a read or a write failed, and whether the link has ended
pub record StreamView : Type 0 where
  pub left : Option (List ℕ)
  pub written : Option (List ℕ)
  pub read_failed : Bool
  pub write_failed : Bool
  pub closed : Bool

-- whether the link has ended by it
abbrev pub ends_link : LinkError → Bool
ends_link Closed = false
ends_link (Frame fault) = true
ends_link Io = true
ends_link Memory = false
ends_link TooLong = false

-- what a frame's fault is to a link
abbrev pub error_of : FrameFault → LinkError
error_of Short = Frame Short
error_of Magic = Frame Magic
error_of Version = Frame Version
error_of Field = Frame Field
error_of Order = Frame Order
error_of Damaged = Frame Damaged
error_of Trailing = Frame Trailing
error_of frame.Memory = Memory

-- the frame of the message is written
pub record PutsFrame (old : StreamView) (m : Message) (new : StreamView) : Type 0 where
  pub was_open : old.closed ≡ false
  pub written : Appends old.written new.written (frame_of (payload_of m))
  pub most : length (frame_of (payload_of m)) ≤ longest_frame
  pub stays : new ≡ record old { written = new.written }

-- a write failed, and a beginning of the frame is written
pub record PutsPart (old : StreamView) (m : Message) (new : StreamView) : Type 0 where
  pub was_open : old.closed ≡ false
  pub worked : old.write_failed ≡ false
  pub part : List ℕ
  pub rest : List ℕ
  pub split : frame_of (payload_of m) ≡ part ++ rest
  pub written : Appends old.written new.written part
  pub stays : new ≡ record old { written = new.written; write_failed = true; closed = true }

-- why nothing was put
abbrev pub StopsPut : StreamView → Message → LinkError → StreamView → Type 0
StopsPut old m Closed new = (old.closed ≡ true) × (new ≡ old)
StopsPut old m (Frame fault) new = ⊥
StopsPut old m Io new = PutsPart old m new
StopsPut old m Memory new = (old.closed ≡ false) × (new ≡ old)
StopsPut old m TooLong new = (old.closed ≡ false) × (longest_frame < length (frame_of (payload_of m))) × (new ≡ old)

-- a frame of the message is taken from what comes
pub record GetsFrame (old : StreamView) (m : Message) (new : StreamView) : Type 0 where
  pub was_open : old.closed ≡ false
  pub takes : TakesFrame old.left new.left (payload_of m)
  pub stays : new ≡ record old { left = new.left }

-- nothing of what will come is lost
pub record LosesNothing (old new : StreamView) : Type 0 where
  pub was_open : old.closed ≡ false
  pub kept : Keeps old.left new.left
  pub stays : new ≡ record old { left = new.left }

-- the link has ended before, or nothing more comes
abbrev pub FindsEnd : StreamView → StreamView → Type 0
FindsEnd old new = ((old.closed ≡ true) × (new ≡ old)) ⊎ (LosesNothing old new × IsAtEnd new.left)

-- the link has ended, since what comes next is no frame
pub record GetsNoFrame (old : StreamView) (fault : FrameFault) (new : StreamView) : Type 0 where
  pub was_open : old.closed ≡ false
  pub kept : Keeps old.left new.left
  pub refuses : RefusesFrame new.left fault
  pub stays : new ≡ record old { left = new.left; closed = true }

-- the link has ended, since a read failed
pub record GetsNoBytes (old new : StreamView) : Type 0 where
  pub was_open : old.closed ≡ false
  pub worked : old.read_failed ≡ false
  pub kept : Keeps old.left new.left
  pub stays : new ≡ record old { left = new.left; read_failed = true; closed = true }

-- why nothing was got
abbrev pub StopsGet : StreamView → LinkError → StreamView → Type 0
StopsGet old Closed new = FindsEnd old new
StopsGet old (Frame fault) new = GetsNoFrame old fault new
StopsGet old Io new = GetsNoBytes old new
StopsGet old Memory new = LosesNothing old new
StopsGet old TooLong new = ⊥

-- it has ended from now on
abbrev pub Closes : StreamView → StreamView → Type 0
Closes old new = new ≡ record old { closed = true }

-- ---- one frame of what comes

-- a read that brought nothing
abbrev pub StopsRead : Incoming → LinkError → Incoming → Type 0
StopsRead old Closed new = ⊥
StopsRead old (Frame fault) new = ⊥
StopsRead old Io new = new.failed ≡ true
StopsRead old Memory new = new.failed ≡ old.failed
StopsRead old TooLong new = ⊥

-- why so many bytes don't wait
abbrev pub StopsFill : ℕ → Incoming → LinkError → Incoming → Type 0
StopsFill least old Closed new = (new.waiting ≡ []) × IsAtEnd new.unread × (old.failed ≡ false → new.failed ≡ false)
StopsFill least old (Frame fault) new = (fault ≡ Short) × (0 < length new.waiting) × (length new.waiting < least) × IsAtEnd new.unread
    × (old.failed ≡ false → new.failed ≡ false)
StopsFill least old Io new = new.failed ≡ true
StopsFill least old Memory new = old.failed ≡ false → new.failed ≡ false
StopsFill least old TooLong new = ⊥

-- why there is no whole frame
abbrev pub StopsNext : Incoming → LinkError → Incoming → Type 0
StopsNext old Closed new = IsAtEnd (left_in new) × (old.failed ≡ false → new.failed ≡ false)
StopsNext old (Frame fault) new = RefusesFrame (left_in new) fault × (old.failed ≡ false → new.failed ≡ false)
StopsNext old Io new = new.failed ≡ true
StopsNext old Memory new = old.failed ≡ false → new.failed ≡ false
StopsNext old TooLong new = ⊥

-- ---- writing

abbrev pub Encoded : Message → List ℕ → Type 0
Encoded m frame = (frame ≡ frame_of (payload_of m)) × (length (frame_of (payload_of m)) ≤ longest_frame)

-- why a message has no frame
abbrev pub StopsEncode : Message → LinkError → Type 0
StopsEncode m Closed = ⊥
StopsEncode m (Frame fault) = ⊥
StopsEncode m Io = ⊥
StopsEncode m Memory = Unit {0}
StopsEncode m TooLong = longest_frame < length (frame_of (payload_of m))

-- a beginning of the bytes is written
pub record Writes (bytes : List ℕ) (before after : Option (List ℕ)) : Type 0 where
  pub part : List ℕ
  pub rest : List ℕ
  pub split : bytes ≡ part ++ rest
  pub written : Appends before after part

-- ---- a new link

abbrev pub started : Option (List ℕ) → Option (List ℕ) → StreamView
started unread written = record { left = unread; written = written; read_failed = false; write_failed = false; closed = false }

-- nothing has failed before a link ends
abbrev pub Works : Bool → Bool → Bool → Type 0
Works closed read_failed write_failed = closed ≡ false → (read_failed ≡ false) × (write_failed ≡ false)

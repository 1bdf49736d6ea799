-- A seat of a tally that counts the frames that a link refuses.
use Rattle.std.specs.Prelude.{◌≡◌, ◌⊎◌}
use Rattle.geo_tally.specs.Seats.{SeatView, added, adds_of}
use Rattle.geo_tally.specs.Words.{most_adds}
use Rattle.geo_tally.specs.declared.counter.Counter.TheVariants.{FramesRefused}
use Rattle.geo_link.specs.declared.fault.LinkError.{LinkError}
use Rattle.geo_link.specs.declared.fault.LinkError.TheVariants.{Closed, Frame, Io, Memory, TooLong}

-- one is added to the refused frames, or nothing where the seat has added 2^40 times
abbrev pub CountsFrame : SeatView → SeatView → Type 0
CountsFrame old new = (new ≡ added FramesRefused old) ⊎ ((adds_of old ≡ most_adds) × (new ≡ old))

-- a refused frame is counted, and nothing else
abbrev pub CountsError : LinkError → SeatView → SeatView → Type 0
CountsError Closed old new = new ≡ old
CountsError (Frame fault) old new = CountsFrame old new
CountsError Io old new = new ≡ old
CountsError Memory old new = new ≡ old
CountsError TooLong old new = new ≡ old

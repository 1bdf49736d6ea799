-- Kinds of replies.
use Rattle.std.specs.Prelude.{Bool, true, false}
use Rattle.geo_requests.specs.declared.reply.Reply.{Reply}
use Rattle.geo_requests.specs.declared.reply.Reply.TheVariants.{Stored, NotStored, Exists, NotFound, Deleted, Touched, Done, Number, Values, Version, Stats, Closed, NotANumber, TooLarge, MapFull, ClockEnded, OutOfMemory}

-- a reply that shows no values
abbrev pub is_short : Reply → Bool
is_short Stored = true
is_short NotStored = true
is_short Exists = true
is_short NotFound = true
is_short Deleted = true
is_short Touched = true
is_short Done = true
is_short (Number number) = true
is_short (Values found) = false
is_short Version = true
is_short (Stats s) = true
is_short Closed = true
is_short NotANumber = true
is_short TooLarge = true
is_short MapFull = true
is_short ClockEnded = true
is_short OutOfMemory = true

-- The text of each fault and each answer (memcached's protocol.txt). All lines end in a return and a newline.
use Rattle.std.specs.Prelude.{ℕ, ◌<◌, Bool, true, false, List, [], ◌∷◌, ◌++◌, length, codes, decimal, Option, Some, None, if◌then◌else◌}
use Rattle.std.specs.List.{flat_map}
use Rattle.geo_grammar.specs.declared.fault.Fault.{Fault}
use Rattle.geo_grammar.specs.declared.fault.Fault.TheVariants as fault
use Rattle.geo_requests.specs.declared.request.Request.{Request}
use Rattle.geo_requests.specs.Requests.{is_noreply}
use Rattle.geo_requests.specs.declared.reply.Found.{Found}
use Rattle.geo_requests.specs.declared.stats.Stats as stats
use Rattle.geo_requests.specs.declared.reply.Reply.{Reply}
use Rattle.geo_requests.specs.declared.reply.Reply.TheVariants.{Stored, NotStored, Exists, NotFound, Deleted, Touched, Done, Number, Values, Version, Stats, Closed, NotANumber, TooLarge, MapFull, ClockEnded, OutOfMemory}

abbrev pub fault_bytes : Fault → List ℕ
fault_bytes fault.Unknown = codes "ERROR\r\n"
fault_bytes fault.BadLine = codes "CLIENT_ERROR bad command line format\r\n"
fault_bytes fault.BadData = codes "CLIENT_ERROR bad data chunk\r\n"
fault_bytes fault.LineTooLong = codes "CLIENT_ERROR line too long\r\n"
fault_bytes fault.TooLarge = codes "SERVER_ERROR object too large for cache\r\n"
fault_bytes fault.BadNumber = codes "CLIENT_ERROR invalid numeric argument\r\n"

-- so many bytes of a value are told at once
abbrev pub most_told : ℕ
most_told = 65536

abbrev pub unique_bytes : Option ℕ → List ℕ
unique_bytes None = []
unique_bytes (Some number) = codes " " ++ decimal number

-- the line of a value
abbrev pub found_line : Found → List ℕ
found_line found = codes "VALUE " ++ found.key ++ codes " " ++ decimal found.flags ++ codes " " ++ decimal (length found.bytes) ++ unique_bytes found.unique ++ codes "\r\n"

-- one value: its line, and then its data
abbrev pub found_bytes : Found → List ℕ
found_bytes found = codes "VALUE " ++ found.key ++ codes " " ++ decimal found.flags ++ codes " " ++ decimal (length found.bytes) ++ unique_bytes found.unique ++ codes "\r\n" ++ found.bytes ++ codes "\r\n"

-- one number of a site
unfoldable pub stat_bytes : List ℕ → ℕ → List ℕ
stat_bytes name value = codes "STAT " ++ name ++ codes " " ++ decimal value ++ codes "\r\n"

abbrev pub stats_bytes : stats.Stats → List ℕ
stats_bytes s = stat_bytes (codes "curr_items") s.curr_items ++ stat_bytes (codes "get_hits") s.get_hits ++ stat_bytes (codes "get_misses") s.get_misses ++ stat_bytes (codes "evictions") s.evictions ++ stat_bytes (codes "site") s.site ++ stat_bytes (codes "clock") s.clock ++ stat_bytes (codes "records") s.records ++ codes "END\r\n"

abbrev pub reply_bytes : Reply → List ℕ
reply_bytes Stored = codes "STORED\r\n"
reply_bytes NotStored = codes "NOT_STORED\r\n"
reply_bytes Exists = codes "EXISTS\r\n"
reply_bytes NotFound = codes "NOT_FOUND\r\n"
reply_bytes Deleted = codes "DELETED\r\n"
reply_bytes Touched = codes "TOUCHED\r\n"
reply_bytes Done = codes "OK\r\n"
reply_bytes (Number number) = decimal number ++ codes "\r\n"
reply_bytes (Values found) = flat_map found_bytes found ++ codes "END\r\n"
reply_bytes Version = codes "VERSION 1.0.0\r\n"
reply_bytes (Stats s) = stats_bytes s
reply_bytes Closed = []
reply_bytes NotANumber = codes "CLIENT_ERROR cannot increment or decrement non-numeric value\r\n"
reply_bytes TooLarge = codes "SERVER_ERROR object too large for cache\r\n"
reply_bytes MapFull = codes "SERVER_ERROR version map full\r\n"
reply_bytes ClockEnded = codes "SERVER_ERROR clock ended\r\n"
reply_bytes OutOfMemory = codes "SERVER_ERROR out of memory\r\n"

-- values that are told piece by piece: several, or a long one
abbrev pub IsMuch : List Found → Type 0
IsMuch [] = ⊥
IsMuch (one ∷ []) = most_told < length one.bytes
IsMuch (one ∷ (two ∷ more)) = Unit {0}

-- a reply that is told piece by piece
abbrev pub ShowsMuch : Reply → Type 0
ShowsMuch Stored = ⊥
ShowsMuch NotStored = ⊥
ShowsMuch Exists = ⊥
ShowsMuch NotFound = ⊥
ShowsMuch Deleted = ⊥
ShowsMuch Touched = ⊥
ShowsMuch Done = ⊥
ShowsMuch (Number number) = ⊥
ShowsMuch (Values found) = IsMuch found
ShowsMuch Version = ⊥
ShowsMuch (Stats s) = ⊥
ShowsMuch Closed = ⊥
ShowsMuch NotANumber = ⊥
ShowsMuch TooLarge = ⊥
ShowsMuch MapFull = ⊥
ShowsMuch ClockEnded = ⊥
ShowsMuch OutOfMemory = ⊥

-- a request with noreply is answered by no bytes, whatever the reply
abbrev pub answer_bytes : Request → Reply → List ℕ
answer_bytes request reply = if is_noreply request then [] else reply_bytes reply

-- Plain memcached on one entry: what it answers, and what becomes of the entry (memcached's protocol.txt, by command).
use Rattle.std.specs.Prelude.{ℕ, ℤ, ◌+◌, ◌-◌, ◌%◌, ◌^◌, Bool, true, false, cond, ◌==◌, nat_lt, nat_le, List, ◌++◌, length, decimal, Option, None, Some, if◌then◌else◌}
use Rattle.geo_requests.specs.Limits.{longest_value, most_number}
use Rattle.geo_requests.specs.Numbers.{number_of}
use Rattle.geo_requests.specs.declared.request.Verb.{Verb}
use Rattle.geo_requests.specs.declared.request.Verb.TheVariants.{Set, Add, Replace, Append, Prepend, Cas}
use Rattle.geo_requests.specs.declared.reply.Reply.{Reply}
use Rattle.geo_requests.specs.declared.reply.Reply.TheVariants.{Stored, NotStored, Exists, NotFound, Deleted, Touched, Number, NotANumber, TooLarge}
use Rattle.geo_memcache.specs.Entries.{Entry, expiry_at}
use Rattle.geo_memcache.specs.declared.ask.Ask.{Ask}
use Rattle.geo_memcache.specs.declared.ask.Ask.TheVariants as ask
use Rattle.geo_memcache.specs.declared.decision.Answer.TheVariants as answer
use Rattle.geo_memcache.specs.declared.decision.Effect.{Effect}
use Rattle.geo_memcache.specs.declared.decision.Effect.TheVariants.{Nothing, Keep, Made, Renew, Tomb}
use Rattle.geo_memcache.specs.declared.decision.Decision.{Decision}

-- what is answered, and what becomes of the entry
abbrev pub Verdict : Type 0
Verdict = Reply × Effect

-- no write is longer than a value may be: it is refused in its place
abbrev pub unless_long : List ℕ → Verdict → Verdict
unless_long bytes v = cond {A = Verdict} (nat_lt longest_value (length bytes)) (TooLarge, Nothing) v

-- the client's bytes become the value
abbrev pub keeps : ℕ → ℤ → List ℕ → ℕ → Verdict
keeps flags exptime bytes now = unless_long bytes (Stored, Keep flags (expiry_at exptime now))

-- new bytes become the value of an entry, which keeps its flags and its expiry
abbrev pub makes : Reply → Entry → List ℕ → Verdict
makes reply e bytes = unless_long bytes (reply, Made bytes e.flags e.expiry)

-- cas compares the number that the client saw with that of the entry
abbrev pub is_seen : Option ℕ → ℕ → Bool
is_seen None unique = false
is_seen (Some seen) unique = seen == unique

-- a storage command, by what is visible of its key
abbrev pub stores : Verb → ℕ → ℤ → Option ℕ → List ℕ → ℕ → Option Entry → Verdict
stores Set flags exptime seen bytes now present = keeps flags exptime bytes now
stores Add flags exptime seen bytes now None = keeps flags exptime bytes now
stores Add flags exptime seen bytes now (Some e) = (NotStored, Nothing)
stores Replace flags exptime seen bytes now None = (NotStored, Nothing)
stores Replace flags exptime seen bytes now (Some e) = keeps flags exptime bytes now
stores Append flags exptime seen bytes now None = (NotStored, Nothing)
stores Append flags exptime seen bytes now (Some e) = makes Stored e (e.bytes ++ bytes)
stores Prepend flags exptime seen bytes now None = (NotStored, Nothing)
stores Prepend flags exptime seen bytes now (Some e) = makes Stored e (bytes ++ e.bytes)
stores Cas flags exptime seen bytes now None = (NotFound, Nothing)
stores Cas flags exptime seen bytes now (Some e) =
    cond {A = Verdict} (is_seen seen e.unique) (keeps flags exptime bytes now) (Exists, Nothing)

-- a delete always leaves a tombstone
abbrev pub deletes : Option Entry → Verdict
deletes None = (NotFound, Tomb)
deletes (Some e) = (Deleted, Tomb)

-- a touch gives an entry another expiry, and leaves all else as it is
abbrev pub touches : ℤ → ℕ → Option Entry → Verdict
touches exptime now None = (NotFound, Nothing)
touches exptime now (Some e) = (Touched, Renew (expiry_at exptime now))

-- the number that a value writes: 1 to 20 digits, at most 2^64 - 1
abbrev pub number_in : List ℕ → Option ℕ
number_in bytes = if nat_le (length bytes) 20 then number_of most_number bytes else None

-- a sum wraps at 2^64, a difference stops at 0
abbrev pub counted : Bool → ℕ → ℕ → ℕ
counted true n by = (n + by) % 2 ^ 64
counted false n by = n - by

abbrev pub becomes : Entry → ℕ → Verdict
becomes e n = (Number n, Made (decimal n) e.flags e.expiry)

abbrev pub counts_from : Bool → ℕ → Entry → Option ℕ → Verdict
counts_from up by e None = (NotANumber, Nothing)
counts_from up by e (Some n) = becomes e (counted up n by)

-- incr and decr
abbrev pub counts : Bool → ℕ → Option Entry → Verdict
counts up by None = (NotFound, Nothing)
counts up by (Some e) = counts_from up by e (number_in e.bytes)

abbrev pub decision_of : Verdict → Decision
decision_of v = record { answer = answer.Reply v.0; effect = v.1 }

-- what is decided of one key at a moment
abbrev pub decided : Option Entry → ℕ → Ask → Decision
decided present now (ask.Store verb flags exptime unique bytes) = decision_of (stores verb flags exptime unique bytes.now now present)
decided None now (ask.Fetch numbers) = record { answer = answer.Miss; effect = Nothing }
decided (Some e) now (ask.Fetch numbers) = record { answer = answer.Hit; effect = Nothing }
decided None now (ask.FetchTouch exptime numbers) = record { answer = answer.Miss; effect = Nothing }
decided (Some e) now (ask.FetchTouch exptime numbers) = record { answer = answer.Hit; effect = Renew (expiry_at exptime now) }
decided present now ask.Delete = decision_of (deletes present)
decided present now (ask.Touch exptime) = decision_of (touches exptime now present)
decided present now (ask.Arith up by) = decision_of (counts up by present)

-- whether new bytes are made, for which memory may be wanted
abbrev pub is_made : Effect → Bool
is_made Nothing = false
is_made (Keep flags expiry) = false
is_made (Made bytes flags expiry) = true
is_made (Renew expiry) = false
is_made Tomb = false

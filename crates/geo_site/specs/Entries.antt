-- Plain memcached (protocol.txt) over the keys that are visible: what it answers, and what it issues.
use Rattle.std.specs.Prelude.{◌≡◌, ℕ, ℤ, ◌+◌, ◌-◌, ◌*◌, min, not, Bool, true, false, cond, ◌==◌, ◌&&◌, ◌||◌, nat_lt, List, [], ◌∷◌, ◌++◌, length, Option, None, Some, ◌⊎◌, if◌then◌else◌, nat_le, map, is_some}
use Rattle.std.specs.List.{list_any}
use Rattle.std.specs.Str.{bytes_eq}
use Rattle.sha2.specs.Sha256.{sha256}
use Rattle.geo_stamp.specs.Stamps.{Moment, last_time}
use Rattle.geo_records.specs.Keys.{same_key}
use Rattle.geo_records.specs.Operations.{Act}
use Rattle.geo_records.specs.Operations.Act.{Write, Delete, Touch, Flush}
use Rattle.geo_records.specs.declared.version.Version.{Version}
use Rattle.geo_requests.specs.Limits.{most_number}
use Rattle.geo_requests.specs.declared.request.Request.{Request}
use Rattle.geo_requests.specs.declared.request.Request.TheVariants as request
use Rattle.geo_requests.specs.declared.reply.Reply.{Reply}
use Rattle.geo_requests.specs.declared.reply.Reply.TheVariants as reply
use Rattle.geo_requests.specs.declared.reply.Found.{Found}
use Rattle.geo_requests.specs.declared.stats.Stats.{Stats}
use Rattle.geo_memcache.specs.Entries.{Entry, expiry_at, is_live}
use Rattle.geo_memcache.specs.Decisions.{stores, deletes, touches, counts}
use Rattle.geo_memcache.specs.declared.decision.Effect.{Effect}
use Rattle.geo_memcache.specs.declared.decision.Effect.TheVariants.{Nothing, Keep, Made, Renew, Tomb}

-- a version names the bytes of its SHA-256 and length
abbrev pub names : Option Version → List ℕ → Bool
names None bytes = false
names (Some v) bytes = bytes_eq v.digest (sha256 bytes) && (v.length == length bytes)

-- the bytes that are held of each key
abbrev pub Held : Type 0
Held = List ℕ → Option (List ℕ)

-- of what is held beside a version, what it names
abbrev pub named_by : Option Version → Option (List ℕ) → Option (List ℕ)
named_by version None = None
named_by version (Some bytes) = cond (names version bytes) (Some bytes) None

-- the number that gets shows and cas compares
abbrev pub cas_of : Moment → ℕ
cas_of stamp = stamp.time * 256 + stamp.site

abbrev pub entry_of_version : ℕ → List ℕ → Option Version → Option Entry
entry_of_version now bytes None = None
entry_of_version now bytes (Some v) =
    cond (is_live v.expiry now) (Some (record { bytes = bytes; flags = v.flags; expiry = v.expiry; unique = cas_of v.stamp })) None

-- a key is visible where its bytes are held and its version is live: the bytes are what is held, all else comes from the version
abbrev pub entry_in : ℕ → Option Version → Option (List ℕ) → Option Entry
entry_in now version None = None
entry_in now version (Some bytes) = entry_of_version now bytes version

abbrev pub Visible : Type 0
Visible = List ℕ → Option Entry

-- what a fetch shows of a key, with its number where it is asked for
abbrev pub unique_if : Bool → ℕ → Option ℕ
unique_if numbers unique = cond numbers (Some unique) None

abbrev pub found_at : Bool → List ℕ → Option Entry → List Found
found_at numbers key None = []
found_at numbers key (Some e) = record { key = key; flags = e.flags; unique = unique_if numbers e.unique; bytes = e.bytes } ∷ []

-- one key after the other
abbrev pub found_of : Bool → Visible → List (List ℕ) → List Found
found_of numbers visible [] = []
found_of numbers visible (key ∷ keys) = found_at numbers key (visible key) ++ found_of numbers visible keys

-- what a touch leaves of an entry: it has another expiry, or is live no longer
abbrev pub renewed : ℕ → ℕ → Option Entry → Option Entry
renewed now expiry None = None
renewed now expiry (Some e) =
    cond (is_live expiry now) (Some (record { bytes = e.bytes; flags = e.flags; expiry = expiry; unique = e.unique })) None

-- what is visible of a key after touches of others
abbrev pub after_touches : ℕ → ℕ → List (List ℕ) → List ℕ → Option Entry → Option Entry
after_touches now expiry others key entry = cond (list_any (same_key key) others) (renewed now expiry entry) entry

abbrev pub found_after : ℕ → ℕ → Bool → Visible → List (List ℕ) → List ℕ → List Found
found_after now expiry numbers visible before key = found_at numbers key (after_touches now expiry before key (visible key))

-- what a fetch that touches shows: one key after the other, each after the touches of those before it
abbrev pub touched_after : ℕ → ℕ → Bool → Visible → List (List ℕ) → List (List ℕ) → List Found
touched_after now expiry numbers visible before [] = []
touched_after now expiry numbers visible before (key ∷ keys) =
    found_after now expiry numbers visible before key ++ touched_after now expiry numbers visible (before ++ key ∷ []) keys

abbrev pub touched_of : ℕ → ℕ → Bool → Visible → List (List ℕ) → List Found
touched_of now expiry numbers visible keys = touched_after now expiry numbers visible [] keys

-- it touches each key that it shows
abbrev pub touches_of : ℕ → List Found → List Act
touches_of expiry found = map (λ (f : Found). Touch f.key expiry) found

-- a flush_all whose moment has come already flushes at once
abbrev pub flushes_now : ℤ → ℕ → Bool
flushes_now delay now = nat_le (expiry_at delay now) now

abbrev pub flush_acts : ℤ → ℕ → List Act
flush_acts delay now = cond {A = List Act} (flushes_now delay now) (Flush ∷ []) []

-- what plain memcached answers
abbrev pub replied : ℕ → Visible → Stats → Request → Reply
replied now visible stats (request.Store verb key flags exptime unique bytes noreply) =
    (stores verb flags exptime unique bytes now (visible key)).0
replied now visible stats (request.Fetch keys numbers) = reply.Values (found_of numbers visible keys)
replied now visible stats (request.FetchTouch exptime keys numbers) =
    reply.Values (touched_of now (expiry_at exptime now) numbers visible keys)
replied now visible stats (request.Delete key noreply) = (deletes (visible key)).0
replied now visible stats (request.Touch key exptime noreply) = (touches exptime now (visible key)).0
replied now visible stats (request.Arith up key by noreply) = (counts up by (visible key)).0
replied now visible stats (request.FlushAll delay noreply) = reply.Done
replied now visible stats request.ShowVersion = reply.Version
replied now visible stats (request.Verbosity noreply) = reply.Done
replied now visible stats request.Stats = reply.Stats stats
replied now visible stats request.Quit = reply.Closed

-- what an effect on a key issues, where the request has these bytes
abbrev pub acts_of : List ℕ → List ℕ → Effect → List Act
acts_of key bytes Nothing = []
acts_of key bytes (Keep flags expiry) = Write key bytes flags expiry ∷ []
acts_of key bytes (Made made flags expiry) = Write key made flags expiry ∷ []
acts_of key bytes (Renew expiry) = Touch key expiry ∷ []
acts_of key bytes Tomb = Delete key ∷ []

-- SHA-256 and length of what an effect makes of older bytes
abbrev pub made_of : Effect → Option (List ℕ × ℕ)
made_of Nothing = None
made_of (Keep flags expiry) = None
made_of (Made made flags expiry) = Some (sha256 made, length made)
made_of (Renew expiry) = None
made_of Tomb = None

-- and of what a request makes of older bytes: append, prepend, incr and decr do
abbrev pub made_on : ℕ → Visible → Request → Option (List ℕ × ℕ)
made_on now visible (request.Store verb key flags exptime unique bytes noreply) =
    made_of (stores verb flags exptime unique bytes now (visible key)).1
made_on now visible (request.Fetch keys numbers) = None
made_on now visible (request.FetchTouch exptime keys numbers) = None
made_on now visible (request.Delete key noreply) = None
made_on now visible (request.Touch key exptime noreply) = None
made_on now visible (request.Arith up key by noreply) = made_of (counts up by (visible key)).1
made_on now visible (request.FlushAll delay noreply) = None
made_on now visible request.ShowVersion = None
made_on now visible (request.Verbosity noreply) = None
made_on now visible request.Stats = None
made_on now visible request.Quit = None

-- and what plain memcached issues
abbrev pub issued : ℕ → Visible → Request → List Act
issued now visible (request.Store verb key flags exptime unique bytes noreply) =
    acts_of key bytes (stores verb flags exptime unique bytes now (visible key)).1
issued now visible (request.Fetch keys numbers) = []
issued now visible (request.FetchTouch exptime keys numbers) =
    touches_of (expiry_at exptime now) (touched_of now (expiry_at exptime now) numbers visible keys)
issued now visible (request.Delete key noreply) = acts_of key [] (deletes (visible key)).1
issued now visible (request.Touch key exptime noreply) = acts_of key [] (touches exptime now (visible key)).1
issued now visible (request.Arith up key by noreply) = acts_of key [] (counts up by (visible key)).1
issued now visible (request.FlushAll delay noreply) = flush_acts delay now
issued now visible request.ShowVersion = []
issued now visible (request.Verbosity noreply) = []
issued now visible request.Stats = []
issued now visible request.Quit = []

-- the moment of the flush that waits after a request: a later flush_all takes the place of the one that waited, and one that
-- flushes at once leaves none
abbrev pub waits_after : ℕ → Request → Option ℕ → Option ℕ
waits_after now (request.Store verb key flags exptime unique bytes noreply) waiting = waiting
waits_after now (request.Fetch keys numbers) waiting = waiting
waits_after now (request.FetchTouch exptime keys numbers) waiting = waiting
waits_after now (request.Delete key noreply) waiting = waiting
waits_after now (request.Touch key exptime noreply) waiting = waiting
waits_after now (request.Arith up key by noreply) waiting = waiting
waits_after now (request.FlushAll delay noreply) waiting = cond (flushes_now delay now) None (Some (expiry_at delay now))
waits_after now request.ShowVersion waiting = waiting
waits_after now (request.Verbosity noreply) waiting = waiting
waits_after now request.Stats waiting = waiting
waits_after now request.Quit waiting = waiting

-- the keys that a request finds, which are accesses of what is held (new_lru.txt)
abbrev pub keys_found : List Found → List (List ℕ)
keys_found found = map (λ (f : Found). f.key) found

abbrev pub accesses : ℕ → Visible → Request → List (List ℕ)
accesses now visible (request.Store verb key flags exptime unique bytes noreply) = []
accesses now visible (request.Fetch keys numbers) = keys_found (found_of numbers visible keys)
accesses now visible (request.FetchTouch exptime keys numbers) = keys_found (touched_of now (expiry_at exptime now) numbers visible keys)
accesses now visible (request.Delete key noreply) = []
accesses now visible (request.Touch key exptime noreply) = cond {A = List (List ℕ)} (is_some (visible key)) (key ∷ []) []
accesses now visible (request.Arith up key by noreply) = []
accesses now visible (request.FlushAll delay noreply) = []
accesses now visible request.ShowVersion = []
accesses now visible (request.Verbosity noreply) = []
accesses now visible request.Stats = []
accesses now visible request.Quit = []

-- how many keys were found, how many were not, and how many values were evicted; each stays at the greatest number that it can show
pub record Counts : Type 0 where
  pub hits : ℕ
  pub misses : ℕ
  pub evictions : ℕ

abbrev pub none_counted : Counts
none_counted = record { hits = 0; misses = 0; evictions = 0 }

abbrev pub counted_on : Counts → ℕ → ℕ → Counts
counted_on c found missed = record {
  hits = min (c.hits + found) most_number;
  misses = min (c.misses + missed) most_number;
  evictions = c.evictions;
}

-- a victim is counted
abbrev pub evicted_on : Option (List ℕ) → Counts → Counts
evicted_on None c = c
evicted_on (Some key) c = record { hits = c.hits; misses = c.misses; evictions = min (c.evictions + 1) most_number }

-- a fetch that does not touch counts each of its keys, and no other request counts
abbrev pub counted : Visible → Request → Counts → Counts
counted visible (request.Store verb key flags exptime unique bytes noreply) c = c
counted visible (request.Fetch keys numbers) c = let found = length (found_of numbers visible keys) in
    counted_on c found (length keys - found)
counted visible (request.FetchTouch exptime keys numbers) c = c
counted visible (request.Delete key noreply) c = c
counted visible (request.Touch key exptime noreply) c = c
counted visible (request.Arith up key by noreply) c = c
counted visible (request.FlushAll delay noreply) c = c
counted visible request.ShowVersion c = c
counted visible (request.Verbosity noreply) c = c
counted visible request.Stats c = c
counted visible request.Quit c = c

-- what a site goes by when it answers: what is visible, the greatest time that it knows, of which keys it has a record, whether
-- it has as many records as it may, and its numbers
pub record Basis : Type 0 where
  pub visible : Visible
  pub clock : ℕ
  pub recorded : List ℕ → Bool
  pub full : Bool
  pub stats : Stats

-- after a clock, no stamps are left for as many acts
abbrev pub lacks : ℕ → List Act → Bool
lacks clock [] = false
lacks clock (act ∷ acts) = nat_lt last_time (clock + length (act ∷ acts))

-- an act wants a record of its key where there is none
abbrev pub wants_record : (List ℕ → Bool) → Act → Bool
wants_record recorded (Write key bytes flags expiry) = not (recorded key)
wants_record recorded (Delete key) = not (recorded key)
wants_record recorded (Touch key expiry) = not (recorded key)
wants_record recorded Flush = false

abbrev pub is_crowded : Basis → List Act → Bool
is_crowded basis acts = basis.full && list_any (wants_record basis.recorded) acts

-- what is owed where there is memory: plain memcached's answer, or in its place the refusal that comes first
abbrev pub owed : ℕ → Basis → Request → Reply
owed now basis request =
    let acts = issued now basis.visible request in
    if is_crowded basis acts then reply.MapFull
    else (if lacks basis.clock acts then reply.ClockEnded
    else replied now basis.visible basis.stats request)

-- memory is wanted to show values that are found; a fetch that touches may want it in any case
abbrev pub is_some_found : List Found → Bool
is_some_found [] = false
is_some_found (f ∷ found) = true

abbrev pub shows_some : ℕ → Visible → Request → Bool
shows_some now visible (request.Store verb key flags exptime unique bytes noreply) = false
shows_some now visible (request.Fetch keys numbers) = is_some_found (found_of numbers visible keys)
shows_some now visible (request.FetchTouch exptime keys numbers) = true
shows_some now visible (request.Delete key noreply) = false
shows_some now visible (request.Touch key exptime noreply) = false
shows_some now visible (request.Arith up key by noreply) = false
shows_some now visible (request.FlushAll delay noreply) = false
shows_some now visible request.ShowVersion = false
shows_some now visible (request.Verbosity noreply) = false
shows_some now visible request.Stats = false
shows_some now visible request.Quit = false

abbrev pub is_some_act : List Act → Bool
is_some_act [] = false
is_some_act (act ∷ acts) = true

-- an act wants memory: a write does, and a delete of a key that has no record
abbrev pub is_growth : (List ℕ → Bool) → Act → Bool
is_growth recorded (Write key bytes flags expiry) = true
is_growth recorded (Delete key) = not (recorded key)
is_growth recorded (Touch key expiry) = false
is_growth recorded Flush = false

-- want of memory comes after every other refusal, and never where no memory is wanted
abbrev pub may_want_memory : ℕ → Basis → Request → Bool
may_want_memory now basis request =
    let acts = issued now basis.visible request in
    (list_any (is_growth basis.recorded) acts || shows_some now basis.visible request) && not (is_crowded basis acts) && not (lacks basis.clock acts)

-- the reply is the one that is owed, or want of memory where it may be wanted
abbrev pub Answers : ℕ → Basis → Request → Reply → Type 0
Answers now basis request answer = (answer ≡ owed now basis request)
    ⊎ ((answer ≡ reply.OutOfMemory) × (may_want_memory now basis request ≡ true))

-- where a site refused what plain memcached does, nothing is done
abbrev pub is_done : Reply → Bool
is_done reply.Stored = true
is_done reply.NotStored = true
is_done reply.Exists = true
is_done reply.NotFound = true
is_done reply.Deleted = true
is_done reply.Touched = true
is_done reply.Done = true
is_done (reply.Number n) = true
is_done (reply.Values found) = true
is_done reply.Version = true
is_done (reply.Stats stats) = true
is_done reply.Closed = true
is_done reply.NotANumber = true
is_done reply.TooLarge = true
is_done reply.MapFull = false
is_done reply.ClockEnded = false
is_done reply.OutOfMemory = false

-- the values in a reply
abbrev pub values_in : Reply → List Found
values_in (reply.Values found) = found
values_in answer = []

-- a flush that waits is due from its moment on
abbrev pub is_due : Option ℕ → ℕ → Bool
is_due None now = false
is_due (Some at) now = nat_le at now

-- it is carried out where a stamp is left for it after the clock; else it stays waiting
abbrev pub flushes_due : Option ℕ → ℕ → ℕ → Bool
flushes_due waiting clock now = is_due waiting now && not (lacks clock (Flush ∷ []))

abbrev pub is_stuck : Option ℕ → ℕ → ℕ → Bool
is_stuck waiting clock now = is_due waiting now && lacks clock (Flush ∷ [])

abbrev pub due_acts : Option ℕ → ℕ → ℕ → List Act
due_acts waiting clock now = cond {A = List Act} (flushes_due waiting clock now) (Flush ∷ []) []

abbrev pub waits_on : Option ℕ → ℕ → ℕ → Option ℕ
waits_on waiting clock now = cond (flushes_due waiting clock now) None waiting

-- a site's own write that ended longer ago than it is kept for, in seconds, is to be reaped
abbrev pub is_reapable : ℕ → ℕ → ℕ → Option Version → Bool
is_reapable number reap_after now None = false
is_reapable number reap_after now (Some v) = (v.stamp.site == number) && not (v.expiry == 0) && nat_lt (v.expiry + reap_after) now

abbrev pub reap_acts : ℕ → ℕ → ℕ → List ℕ → Option Version → List Act
reap_acts number reap_after now key version = cond {A = List Act} (is_reapable number reap_after now version) (Delete key ∷ []) []

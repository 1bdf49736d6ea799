-- What a request changes at one key, step by step: its stamp, its effect, and the reply.
use Rattle.std.specs.Prelude.{◌≡◌, ◌⊎◌, ℕ, ◌+◌, ◌≤◌, ◌<◌, Bool, true, false, not, ◌&&◌, nat_le, List, [], ◌∷◌, length, None, Result, Ok, Err}
use Rattle.std.specs.List.{list_any}
use Rattle.geo_stamp.specs.Stamps.{Moment, last_time}
use Rattle.geo_versions.specs.Maps.{has_register}
use Rattle.geo_requests.specs.declared.reply.Reply.{Reply}
use Rattle.geo_requests.specs.declared.reply.Reply.TheVariants as reply
use Rattle.geo_memcache.specs.declared.ask.Ask.{Ask}
use Rattle.geo_memcache.specs.declared.ask.Ask.TheVariants.{Store, Fetch, FetchTouch, Delete, Touch, Arith}
use Rattle.geo_memcache.specs.declared.decision.Decision.{Decision}
use Rattle.geo_memcache.specs.declared.decision.Answer.TheVariants as answer
use Rattle.geo_memcache.specs.declared.decision.Effect.{Effect}
use Rattle.geo_memcache.specs.declared.decision.Effect.TheVariants.{Nothing, Keep, Made, Renew, Tomb}
use Rattle.geo_requests.specs.Limits.{longest_value}
use Rattle.geo_site.specs.declared.site.Site.{Site}
use Rattle.geo_site.specs.declared.acted.Acted.{Acted}
use Rattle.geo_site.specs.declared.acted.Beside.{Beside}
use Rattle.geo_site.specs.declared.refusal.WriteError.{WriteError}
use Rattle.geo_site.specs.declared.refusal.WriteError.TheVariants.{MapFull, ClockEnded, Memory}
use Rattle.geo_site.specs.Entries.{evicted_on, acts_of, made_of, is_some_act, is_growth}
use Rattle.geo_site.specs.Machine.{Same, clock_of}
use Rattle.geo_site.specs.Sites.{state_in, most_records, record_count, counts_in, victim_in, FirstVictimFits, HasIssuedAfter, TellsBeside}

-- what asks for more than a look
abbrev pub is_change : Ask → Bool
is_change (Store verb flags exptime unique bytes) = true
is_change (Fetch numbers) = false
is_change (FetchTouch exptime numbers) = false
is_change Delete = true
is_change (Touch exptime) = true
is_change (Arith up by) = true

-- the bytes that are asked to be stored
abbrev pub bytes_in : Ask → List ℕ
bytes_in (Store verb flags exptime unique bytes) = bytes.now
bytes_in (Fetch numbers) = []
bytes_in (FetchTouch exptime numbers) = []
bytes_in Delete = []
bytes_in (Touch exptime) = []
bytes_in (Arith up by) = []

-- the next stamp of a site
abbrev pub next_stamp_of : Site → Moment
next_stamp_of site = record { time = clock_of (state_in site) + 1; site = site.number }

-- the map is full, and has no record of the key
abbrev pub is_crowded_out : Site → List ℕ → Bool
is_crowded_out site key = nat_le (most_records site) (record_count site) && not (has_register ((state_in site).map key))

abbrev pub CanWrite : Site → List ℕ → Type 0
CanWrite site key = (is_crowded_out site key ≡ false) × (clock_of (state_in site) + 1 ≤ last_time)

-- why a key is not written, tested in this order; want of memory comes last
abbrev pub WriteRefuses : Site → List ℕ → WriteError → Type 0
WriteRefuses site key MapFull = is_crowded_out site key ≡ true
WriteRefuses site key ClockEnded = (is_crowded_out site key ≡ false) × (last_time < clock_of (state_in site) + 1)
WriteRefuses site key Memory = CanWrite site key

abbrev pub refusal_reply : WriteError → Reply
refusal_reply MapFull = reply.MapFull
refusal_reply ClockEnded = reply.ClockEnded
refusal_reply Memory = reply.OutOfMemory

-- no effect writes more than a value may have
abbrev pub IsShort : Effect → List ℕ → Type 0
IsShort Nothing bytes = Unit {0}
IsShort (Keep flags expiry) bytes = length bytes ≤ longest_value
IsShort (Made made flags expiry) bytes = length made ≤ longest_value
IsShort (Renew expiry) bytes = Unit {0}
IsShort Tomb bytes = Unit {0}

-- a key whose expiry is renewed has a record
abbrev pub HasRecord : Site → List ℕ → Type 0
HasRecord site key = (state_in site).map key ≡ (None, None) → ⊥

-- and a key that is visible has a body there
abbrev pub HasBody : Site → List ℕ → Type 0
HasBody site key = ((state_in site).map key).0 ≡ None → ⊥

abbrev pub IsThere : Site → List ℕ → Effect → Type 0
IsThere site key Nothing = Unit {0}
IsThere site key (Keep flags expiry) = Unit {0}
IsThere site key (Made made flags expiry) = Unit {0}
IsThere site key (Renew expiry) = HasRecord site key
IsThere site key Tomb = Unit {0}

-- a key whose expiry is renewed was found
abbrev pub accesses_of : List ℕ → Effect → List (List ℕ)
accesses_of key Nothing = []
accesses_of key (Keep flags expiry) = []
accesses_of key (Made made flags expiry) = []
accesses_of key (Renew expiry) = key ∷ []
accesses_of key Tomb = []

-- memory is wanted to write, and to delete a key that has no record
abbrev pub is_memory : WriteError → Bool
is_memory MapFull = false
is_memory ClockEnded = false
is_memory Memory = true

-- whether it has a record of a key
abbrev pub recorded_in : Site → List ℕ → Bool
recorded_in site key = has_register ((state_in site).map key)

-- what becomes of a site by an effect on a key, by its result
abbrev pub EffectDoes : Site → Site → List ℕ → List ℕ → Effect → Result (Unit {0}) WriteError → Type 0
EffectDoes old new key bytes effect (Ok done) = (is_some_act (acts_of key bytes effect) ≡ true → CanWrite old key)
    × HasIssuedAfter (accesses_of key effect) old new (acts_of key bytes effect)
    × (counts_in new ≡ evicted_on (victim_in old (acts_of key bytes effect)) (counts_in old)) × FirstVictimFits old (acts_of key bytes effect)
EffectDoes old new key bytes effect (Err why) = (is_some_act (acts_of key bytes effect) ≡ true)
    × (is_memory why ≡ true → list_any (is_growth (recorded_in old)) (acts_of key bytes effect) ≡ true) × WriteRefuses old key why
    × Same (state_in old) (state_in new) × (counts_in new ≡ counts_in old)

-- what is told of an effect beside the reply
abbrev pub effect_done : Result Beside WriteError → Result (Unit {0}) WriteError
effect_done (Ok beside) = Ok tt
effect_done (Err why) = Err why

abbrev pub TellsEffect : Site → List ℕ → List ℕ → Effect → Beside → Type 0
TellsEffect old key bytes effect beside = (beside.victim ≡ victim_in old (acts_of key bytes effect)) × (beside.made ≡ made_of effect)

-- the reply is the decision's and its effect was carried out, or it was refused and changes nothing
abbrev pub ChangeDoes : Site → Site → List ℕ → List ℕ → Decision → Reply → Type 0
ChangeDoes old new key bytes decision said =
    ((decision.answer ≡ answer.Reply said) × EffectDoes old new key bytes decision.effect (Ok tt))
    ⊎ ((why : WriteError) × (said ≡ refusal_reply why) × EffectDoes old new key bytes decision.effect (Err why))

-- and what is told of the change beside the reply
abbrev pub TellsChange : Site → Bool → List ℕ → List ℕ → Decision → Acted → Type 0
TellsChange old wanted key bytes decision acted = TellsBeside old wanted (acts_of key bytes decision.effect) (made_of decision.effect) acted

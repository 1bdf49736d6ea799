-- Schedules: what each site knows and holds after the events, and what was known when each parcel was sent. (A state is the
-- join of what was seen: Almeida et al. 2018.)
use Rattle.std.specs.Prelude.{◌≡◌, ◌≢◌, ℕ, Bool, true, false, not, cond, if◌then◌else◌, ◌==◌, ◌≤◌, nat_le, List, [], ◌∷◌, ◌++◌, length, Option, None, Some, is_some, slice_index_or}
use Rattle.geo_stamp.specs.Retired.{no_sites, is_in, with_site, set_joined}
use Rattle.geo_versions.specs.Maps.{has_register}
use Rattle.geo_records.specs.Operations.{Operation, Act, Among, Record, latest, version_of}
use Rattle.geo_requests.specs.declared.request.Request.{Request}
use Rattle.geo_requests.specs.declared.reply.Reply.{Reply}
use Rattle.geo_requests.specs.declared.reply.Reply.TheVariants.{ClockEnded}
use Rattle.geo_world.specs.declared.event.Event.{Event}
use Rattle.geo_world.specs.declared.event.Event.TheVariants.{Command, Evict, Send, Take, Remove, Tick, Reap, Fill, Retire}
use Rattle.geo_world.specs.declared.event.Trace.{Trace}
use Rattle.geo_world.specs.declared.event.Trace.TheVariants.{Replied, Evicted, Sent, SendRefused, Taken, TakeRefused, Removed, Ticked, Reaped, ReapRefused, Filled, FillRefused, Retired, RetireRefused}
use Rattle.geo_site.specs.declared.fill.Filled.{Filled as FilledAs}
use Rattle.geo_site.specs.declared.fill.Filled.TheVariants.{Done}
use Rattle.geo_site.specs.declared.setup.Limits.{Limits}
use Rattle.geo_site.specs.declared.refusal.SendError.{SendError}
use Rattle.geo_site.specs.declared.refusal.TakeError.{TakeError}
use Rattle.geo_site.specs.declared.refusal.ReapError.{ReapError}
use Rattle.geo_site.specs.declared.refusal.RetireError.{RetireError}
use Rattle.geo_site.specs.declared.refusal.RetireError.TheVariants as retire
use Rattle.geo_site.specs.declared.refusal.ReapError.TheVariants as reap
use Rattle.geo_site.specs.declared.refusal.SendError.TheVariants as send
use Rattle.geo_site.specs.declared.refusal.TakeError.TheVariants as take
use Rattle.geo_site.specs.Entries.{Held, Visible, Basis, Counts, none_counted, counted, evicted_on, entry_in, names, named_by, issued, waits_after, flushes_due, is_stuck, due_acts, waits_on, is_reapable, reap_acts, lacks, Answers, is_done}
use Rattle.geo_records.specs.Keys.{same_key}
use Rattle.geo_records.specs.Operations.Act.{Write, Delete, Touch, Flush}
use Rattle.geo_world.specs.Holding.{Holds}
use Rattle.geo_site.specs.Fills.{is_filled, FillsAs}
use Rattle.geo_site.specs.Machine.{act_held, held_with, without, next_operation, VictimOf, IsRecordCount, IsHeldCount}

-- what was known at a site, and which it held for retired, when it sent a parcel, and to whom
pub record Sending : Type 0 where
  pub from : ℕ
  pub to : ℕ
  pub set : List Bool
  pub ops : List Operation

-- what each site knows and holds, how many keys it found, did not find and evicted, the moment of the flush that waits there, what it
-- was told at its start, which sites it holds for retired, how many sites there are, and what was sent
pub record Known : Type 0 where
  pub at : ℕ → List Operation
  pub held : ℕ → Held
  pub counts : ℕ → Counts
  pub waiting : ℕ → Option ℕ
  pub limits : ℕ → Limits
  pub sets : ℕ → List Bool
  pub sites : ℕ
  pub sent : List Sending

-- nothing is known, where there are so many sites and this is what each was told at its start
abbrev pub nothing_known : ℕ → (ℕ → Limits) → Known
nothing_known sites limits = record {
  at = λ _. [];
  held = λ _ _. None;
  counts = λ _. none_counted;
  waiting = λ _. None;
  limits = limits;
  sets = λ _. no_sites;
  sites = sites;
  sent = [];
}

-- of so many sites each outside of a set knows every operation up to a time that another outside of it knows, and none of them issues
-- another one up to it. Of the operations of a site in the set only those count that one outside of it knows
pub record StableAt (sites : ℕ) (set : List Bool) (at : ℕ → List Operation) (time : ℕ) : Type 0 where
  pub known : (r s : ℕ) (op : Operation) → 1 ≤ r → r ≤ sites → is_in set r ≡ false → 1 ≤ s → s ≤ sites → is_in set s ≡ false
      → Among (at r) op → op.stamp.time ≤ time → Among (at s) op
  pub past : (s : ℕ) → 1 ≤ s → s ≤ sites → is_in set s ≡ false → time ≤ latest (at s)

-- among the sites that this one does not hold for retired
abbrev pub Stable : Known → ℕ → ℕ → Type 0
Stable w site = StableAt w.sites (w.sets site) w.at

-- of what is held, what the versions of the operations name
abbrev pub still_held : List Operation → Held → Held
still_held ops held key = named_by (version_of ops key) (held key)

-- a site knows these operations now, and of what it holds keeps what its versions name
abbrev pub settles : Known → ℕ → List Operation → Held → Known
settles w site ops held = record {
  at = λ t. if t == site then ops else w.at t;
  held = λ t. if t == site then still_held ops held else w.held t;
  counts = w.counts;
  waiting = w.waiting;
  limits = w.limits;
  sets = w.sets;
  sites = w.sites;
  sent = w.sent;
}

-- the next operation of a site, after the greatest time that it knows
abbrev pub new_operation : Known → ℕ → Act → Operation
new_operation w site act = next_operation (latest (w.at site)) site act

-- a site issues operations, one after the other
abbrev pub issues : Known → ℕ → List Act → Known
issues w site [] = w
issues w site (act ∷ acts) = issues (settles w site (w.at site ++ new_operation w site act ∷ []) (act_held act (w.held site))) site acts

-- a site learns operations
abbrev pub learns : Known → ℕ → List Operation → Known
learns w site ops = settles w site (w.at site ++ ops) (w.held site)

-- what was known when a parcel was sent, which sites its sender held for retired, from whom and for whom it is
abbrev pub never_sent : Sending
never_sent = record { from = 0; to = 0; set = no_sites; ops = [] }

abbrev pub carried : Known → ℕ → List Operation
carried w parcel = (slice_index_or w.sent parcel never_sent).ops

abbrev pub told_retired : Known → ℕ → List Bool
told_retired w parcel = (slice_index_or w.sent parcel never_sent).set

abbrev pub sender : Known → ℕ → ℕ
sender w parcel = (slice_index_or w.sent parcel never_sent).from

abbrev pub addressee : Known → ℕ → ℕ
addressee w parcel = (slice_index_or w.sent parcel never_sent).to

-- a site holds these for retired
abbrev pub holds_retired : Known → ℕ → List Bool → Known
holds_retired w site set = record {
  at = w.at;
  held = w.held;
  counts = w.counts;
  waiting = w.waiting;
  limits = w.limits;
  sets = λ t. if t == site then set else w.sets t;
  sites = w.sites;
  sent = w.sent;
}

-- what is visible at a site
abbrev pub visible : Known → ℕ → ℕ → Visible
visible w site now key = entry_in now (version_of (w.at site) key) (w.held site key)

-- what is issued at a site on a request
abbrev pub issues_on : Known → ℕ → ℕ → Request → List Act
issues_on w site now request = issued now (visible w site now) request

-- a site counts the keys of a request
abbrev pub counts_keys : Known → ℕ → Counts → Known
counts_keys w site counts = record {
  at = w.at;
  held = w.held;
  counts = λ t. if t == site then counts else w.counts t;
  waiting = w.waiting;
  limits = w.limits;
  sets = w.sets;
  sites = w.sites;
  sent = w.sent;
}

-- a site holds the bytes of a victim no longer, if there is one
abbrev pub lets_go : Known → ℕ → Option (List ℕ) → Known
lets_go w site victim = record {
  at = w.at;
  held = λ t. if t == site then without victim (w.held site) else w.held t;
  counts = w.counts;
  waiting = w.waiting;
  limits = w.limits;
  sets = w.sets;
  sites = w.sites;
  sent = w.sent;
}

-- the bytes of a key are evicted, which is counted
abbrev pub evicts : Known → ℕ → List ℕ → Known
evicts w site key = counts_keys (lets_go w site (Some key)) site (evicted_on (Some key) (w.counts site))

-- a site holds bytes that were offered
abbrev pub fills : Known → ℕ → List ℕ → List ℕ → Known
fills w site key bytes = record {
  at = w.at;
  held = λ t. if t == site then held_with key bytes (w.held site) else w.held t;
  counts = w.counts;
  waiting = w.waiting;
  limits = w.limits;
  sets = w.sets;
  sites = w.sites;
  sent = w.sent;
}

-- a flush waits at a site for its moment, or none does
abbrev pub waits : Known → ℕ → Option ℕ → Known
waits w site waiting = record {
  at = w.at;
  held = w.held;
  counts = w.counts;
  waiting = λ t. if t == site then waiting else w.waiting t;
  limits = w.limits;
  sets = w.sets;
  sites = w.sites;
  sent = w.sent;
}

-- a site carries out a flush that is due
abbrev pub flushed : Known → ℕ → ℕ → Known
flushed w site now = waits (issues w site (due_acts (w.waiting site) (latest (w.at site)) now)) site
    (waits_on (w.waiting site) (latest (w.at site)) now)

-- a site carries out a request, for which the bytes of a victim go first, if there is one
abbrev pub carries_out : Known → ℕ → ℕ → Request → Option (List ℕ) → Known
carries_out w site now request victim =
    waits (counts_keys (issues (lets_go w site victim) site (issues_on w site now request)) site
    (evicted_on victim (counted (visible w site now) request (w.counts site))))
    site (waits_after now request (w.waiting site))

-- a site deletes a key that is to be reaped
abbrev pub reaps_on : Known → ℕ → ℕ → List ℕ → List Act
reaps_on w site now key = reap_acts site (w.limits site).reap_after now key (version_of (w.at site) key)

-- what a site goes by when it answers, where it keeps this of each key, so many keys have a record, and of so many bytes are held
abbrev pub basis : Known → ℕ → ℕ → (List ℕ → Record) → ℕ → ℕ → Basis
basis w site now kept records items = record {
  visible = visible w site now;
  clock = latest (w.at site);
  recorded = λ key. has_register (kept key);
  full = nat_le (w.limits site).max_records records;
  stats = record {
    curr_items = items;
    get_hits = (w.counts site).hits;
    get_misses = (w.counts site).misses;
    evictions = (w.counts site).evictions;
    site = site;
    clock = latest (w.at site);
    records = records;
  };
}

-- the reply is what the site owes to the request, or want of memory where it may be wanted. It keeps of each key what its operations
-- name, but for what every site knows that it does not hold for retired
pub record RepliesTo (w : Known) (site now : ℕ) (request : Request) (reply : Reply) : Type 0 where
  pub kept : List ℕ → Record
  pub records : ℕ
  pub items : ℕ
  pub holds : (key : List ℕ) → Holds (Stable w site) (kept key) (w.at site) key
  pub recorded : IsRecordCount kept records
  pub held : IsHeldCount (w.held site) items
  pub answers : Answers now (basis w site now kept records items) request reply

-- after a due flush the reply is what the site owes; where no stamp is left for that flush, all that it says is that its clock
-- has ended
abbrev pub RepliesBy : Bool → Known → ℕ → ℕ → Request → Reply → Type 0
RepliesBy true w site now request reply = reply ≡ ClockEnded
RepliesBy false w site now request reply = RepliesTo w site now request reply

-- what was issued on a request, by its reply
abbrev pub issues_by : Known → ℕ → ℕ → Request → Reply → List Act
issues_by w site now request reply = cond {A = List Act} (is_done reply) (issues_on w site now request) []

-- what is known after an event; one that was refused adds nothing but a due flush, and a removal adds nothing
abbrev pub happens : Known → Event → Trace → Known
happens w (Command site now request) (Replied reply victim) = let v = flushed w site now in
    cond (is_done reply) (carries_out v site now request victim) v
happens w (Evict site key) (Evicted done) = cond done (evicts w site key) w
happens w (Send site to) Sent = record {
  at = w.at;
  held = w.held;
  counts = w.counts;
  waiting = w.waiting;
  limits = w.limits;
  sets = w.sets;
  sites = w.sites;
  sent = w.sent ++ record { from = site; to = to; set = w.sets site; ops = w.at site } ∷ [];
}
happens w (Take site parcel) Taken = holds_retired (learns w site (carried w parcel)) site (set_joined (w.sets site) (told_retired w parcel))
happens w (Tick site now) (Ticked done) = flushed w site now
happens w (Reap site now key) (Reaped done) = let v = flushed w site now in issues v site (reaps_on v site now key)
happens w (Reap site now key) (ReapRefused why) = flushed w site now
happens w (Fill site key bytes) (Filled filled) = cond (is_filled filled) (fills w site key bytes) w
happens w (Retire site other) (Retired fresh) = holds_retired w site (with_site (w.sets site) other)
happens w event trace = w

-- what is known after a schedule with its trace
abbrev pub known : Known → List Event → List Trace → Known
known w [] traces = w
known w (event ∷ events) [] = w
known w (event ∷ events) (trace ∷ traces) = known (happens w event trace) events traces

-- a send is refused exactly to its own site, and to one that it holds for retired, but for want of memory
abbrev pub SendRefusedFor : List Bool → ℕ → ℕ → SendError → Type 0
SendRefusedFor set site to send.NoSuchSite = to ≡ site
SendRefusedFor set site to send.Retired = (to ≢ site) × (is_in set to ≡ true)
SendRefusedFor set site to send.Memory = (to ≢ site) × (is_in set to ≡ false)

-- a take is refused exactly where the parcel is for another, and where it is from a site that this one holds for retired, but for want
-- of memory
abbrev pub TakeRefusedFor : List Bool → ℕ → ℕ → ℕ → TakeError → Type 0
TakeRefusedFor set site from to take.NotForMe = to ≢ site
TakeRefusedFor set site from to take.UnknownSite = ⊥
TakeRefusedFor set site from to take.Retired = (to ≡ site) × (is_in set from ≡ true)
TakeRefusedFor set site from to take.Gap = ⊥
TakeRefusedFor set site from to take.Memory = (to ≡ site) × (is_in set from ≡ false)

-- a retirement is refused exactly of its own site
abbrev pub RetireRefusedFor : ℕ → ℕ → RetireError → Type 0
RetireRefusedFor site other retire.NoSuchSite = other ≡ site
RetireRefusedFor site other retire.Memory = ⊥

-- a reap deletes exactly a key that is to be reaped, and is refused exactly where no stamp is left for that
abbrev pub ReapsIn : Known → ℕ → ℕ → List ℕ → Bool → Type 0
ReapsIn w site now key done = (done ≡ is_reapable site (w.limits site).reap_after now (version_of (w.at site) key))
    × (lacks (latest (w.at site)) (reaps_on w site now key) ≡ false)

abbrev pub ReapRefusedFor : Known → ℕ → ℕ → List ℕ → ReapError → Type 0
ReapRefusedFor w site now key reap.ClockEnded = lacks (latest (w.at site)) (reaps_on w site now key) ≡ true
ReapRefusedFor w site now key reap.Memory = ⊥

-- what comes of a fill: bytes of the version's SHA-256 and length are held where none were, unless their class is full, of which
-- nothing is known here
abbrev pub FilledIn : Known → ℕ → List ℕ → List ℕ → FilledAs → Type 0
FilledIn w site key bytes filled = FillsAs (names (version_of (w.at site) key) bytes) (is_some (w.held site key)) filled

-- the trace is one that the event can have
abbrev pub Lawful : Known → Event → Trace → Type 0
Lawful w (Command site now request) (Replied reply victim) = let v = flushed w site now in
    RepliesBy (is_stuck (w.waiting site) (latest (w.at site)) now) v site now request reply
    × VictimOf (v.held site) (issues_by v site now request reply) victim
Lawful w (Evict site key) (Evicted done) = done ≡ is_some (w.held site key)
Lawful w (Send site to) Sent = (to ≢ site) × (is_in (w.sets site) to ≡ false)
Lawful w (Send site to) (SendRefused why) = SendRefusedFor (w.sets site) site to why
Lawful w (Take site parcel) Taken = (addressee w parcel ≡ site) × (is_in (w.sets site) (sender w parcel) ≡ false)
Lawful w (Take site parcel) (TakeRefused why) = TakeRefusedFor (w.sets site) site (sender w parcel) (addressee w parcel) why
Lawful w (Remove site) (Removed horizon count) = Stable w site horizon
Lawful w (Tick site now) (Ticked done) = done ≡ flushes_due (w.waiting site) (latest (w.at site)) now
Lawful w (Reap site now key) (Reaped done) = ReapsIn (flushed w site now) site now key done
Lawful w (Reap site now key) (ReapRefused why) = ReapRefusedFor (flushed w site now) site now key why
Lawful w (Fill site key bytes) (Filled filled) = FilledIn w site key bytes filled
Lawful w (Fill site key bytes) FillRefused = FilledIn w site key bytes Done
Lawful w (Retire site other) (Retired fresh) = (other ≢ site) × (fresh ≡ not (is_in (w.sets site) other))
Lawful w (Retire site other) (RetireRefused why) = RetireRefusedFor site other why
Lawful w event trace = ⊥

-- each of them is
abbrev pub EachLawful : Known → List Event → List Trace → Type 0
EachLawful w [] [] = Unit {0}
EachLawful w [] (trace ∷ traces) = ⊥
EachLawful w (event ∷ events) [] = ⊥
EachLawful w (event ∷ events) (trace ∷ traces) = Lawful w event trace × EachLawful (happens w event trace) events traces

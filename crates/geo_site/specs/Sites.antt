-- What a site of the code is, as a state of the machine, and what a parcel of the code brings.
use Rattle.std.specs.Prelude.{IsTrue, ◌↔◌, ◌≡◌, ◌≢◌, ◌⊎◌, [], ◌∷◌, ℕ, ◌+◌, ◌-◌, ◌≤◌, ◌<◌, Bool, true, false, cond, not, ◌&&◌, ◌==◌, nat_le, List, length, Option, None, Some, IsSome, is_some, Result, Ok, Err}
use Rattle.std.specs.List.{All, list_all, list_any}
use Rattle.std.specs.declared.alloc.AllocError.{AllocError}
use Rattle.geo_slabs.specs.Storage.{class_count, most_pages}
use Rattle.geo_lru.specs.Rules.{juggled_by}
use Rattle.geo_values.specs.Stock.{dropped, juggled_in}
use Rattle.geo_values.specs.Held.{stock_in, count_in as values_count}
use Rattle.geo_stamp.specs.Acks.{Heard, row_of, heard, retires as retires_in, none_heard, horizon_of, looked}
use Rattle.geo_stamp.specs.Retired.{is_in, set_fits}
use Rattle.geo_stamp.specs.Vectors.{vector_joined}
use Rattle.geo_records.specs.Keys.{same_key}
use Rattle.geo_versions.specs.Maps.{Rec, rec_means, listed_at, since, Rising}
use Rattle.geo_versions.specs.Maps.{floor_in, record_in, count_in, has_register}
use Rattle.geo_delta.specs.Ranges.{InRange}
use Rattle.geo_delta.specs.declared.parcel.Parcel.{Parcel}
use Rattle.geo_requests.specs.declared.request.Request.{Request}
use Rattle.geo_requests.specs.declared.stats.Stats.{Stats}
use Rattle.geo_stamp.specs.Stamps.{Moment, most_sites}
use Rattle.geo_records.specs.Operations.{Act, version_in}
use Rattle.geo_site.specs.declared.site.Site.{Site}
use Rattle.geo_site.specs.declared.acted.Acted.{Acted}
use Rattle.geo_site.specs.declared.exchange.Taken.{Taken}
use Rattle.geo_site.specs.declared.exchange.Refused.{Refused}
use Rattle.geo_site.specs.declared.refusal.SendError.{SendError}
use Rattle.geo_site.specs.declared.refusal.SendError.TheVariants.{NoSuchSite}
use Rattle.geo_site.specs.declared.refusal.SendError.TheVariants as sends
use Rattle.geo_site.specs.declared.setup.Setup.{Setup}
use Rattle.geo_site.specs.declared.setup.Limits.{Limits}
use Rattle.geo_site.specs.declared.refusal.ReapError.{ReapError}
use Rattle.geo_site.specs.declared.refusal.ReapError.TheVariants as reaps
use Rattle.geo_site.specs.declared.refusal.SetupError.{SetupError}
use Rattle.geo_site.specs.declared.refusal.SetupError.TheVariants.{Sites, SiteNumber, TooFewPages, TooManyPages, Records}
use Rattle.geo_site.specs.declared.refusal.SetupError.TheVariants as setups
use Rattle.geo_site.specs.declared.refusal.TakeError.{TakeError}
use Rattle.geo_site.specs.declared.refusal.TakeError.TheVariants.{NotForMe, UnknownSite, Retired, Gap}
use Rattle.geo_site.specs.declared.refusal.TakeError.TheVariants as takes
use Rattle.geo_site.specs.declared.refusal.RetireError.{RetireError}
use Rattle.geo_site.specs.declared.refusal.RetireError.TheVariants as retires
use Rattle.geo_requests.specs.declared.reply.Reply.{Reply}
use Rattle.geo_requests.specs.declared.reply.Reply.TheVariants.{Values, ClockEnded, OutOfMemory}
use Rattle.geo_requests.specs.declared.reply.Found.{Found}
use Rattle.geo_site.specs.Entries.{Basis, Counts, none_counted, counted_on, counted, evicted_on, accesses, keys_found, issued, found_of, touched_of, touches_of, waits_after, lacks, is_some_found, due_acts, waits_on, flushes_due, is_stuck, is_reapable, reap_acts, Answers, is_done, made_on}
use Rattle.geo_site.specs.Machine.{SiteState, Delta, accessed, with_stock, victim_by, VictimFits, Same, fresh, issue_all, take, sifted_delta, removed, clock_of, visible_in, knows_record, knows_floor, IsRecordCount, IsHeldCount}

-- a site as a state
abbrev pub state_in : Site → SiteState
state_in site = record {
  vector = site.vector;
  floor = floor_in site.versions;
  map = record_in site.versions;
  stock = stock_in site.values;
}

-- what it was told at its start, and how many records it may keep by that
abbrev pub limits_of : Site → Limits
limits_of site = site.limits

abbrev pub most_records : Site → ℕ
most_records site = site.limits.max_records

-- the greatest time that it knows
abbrev pub clock_in : Site → ℕ
clock_in site = clock_of (state_in site)

-- the moment of the flush that waits
abbrev pub waiting_in : Site → Option ℕ
waiting_in site = site.waiting

-- the expiry in a record is not below this, but for 0
abbrev pub EndFrom : ℕ → List ℕ × Rec → Type 0
EndFrom least entry = (s : Moment) (e : ℕ) → (rec_means entry.1).1 ≡ Some (s, e) → e ≢ 0 → least ≤ e

-- what it last heard of each site, which sites it holds for retired, and the greatest horizon that it kept
abbrev pub heard_in : Site → Heard
heard_in site = site.heard

-- the sites that it holds for retired
abbrev pub retired_in : Site → List Bool
retired_in site = (heard_in site).set

-- the time up to which each operation that a site outside of its set knows is known to every such site
abbrev pub horizon_in : Site → ℕ
horizon_in site = horizon_of (heard_in site) site.number site.vector

-- what it heard, with the horizon that it answers kept
abbrev pub looked_in : Site → Heard
looked_in site = looked (heard_in site) site.number site.vector

-- how many values it holds
abbrev pub held_count : Site → ℕ
held_count site = values_count site.values

-- what a parcel brings
abbrev pub delta_of : Parcel → Delta
delta_of parcel = record { upto = parcel.upto; floor = parcel.floor; map = listed_at parcel.records }

-- each stamp in the records is known
abbrev pub knows_all : List ℕ → List (List ℕ × Rec) → Bool
knows_all v records = list_all (λ e. knows_record v (rec_means e.1)) records

-- a parcel that no other site of as many makes: its sender is the receiver or not configured, its vectors are of another
-- number of sites, it holds a site for retired that is not configured, or it has a stamp that its `upto` does not know
abbrev pub is_sound : ℕ → ℕ → Parcel → Bool
is_sound sites number parcel =
    (nat_le 1 parcel.from && nat_le parcel.from sites) && not (parcel.from == number)
    && (length parcel.base == sites) && (length parcel.upto == sites) && set_fits sites parcel.retired
    && knows_floor parcel.upto parcel.floor && knows_all parcel.upto parcel.records

-- how many keys have a record
abbrev pub record_count : Site → ℕ
record_count site = count_in site.versions

-- how many keys it found and did not find, and how many values it evicted
abbrev pub counts_in : Site → Counts
counts_in site = record { hits = site.hits; misses = site.misses; evictions = site.evictions }

-- what it goes by when it answers at a moment
abbrev pub stats_in : Site → Stats
stats_in site = record {
  curr_items = held_count site;
  get_hits = site.hits;
  get_misses = site.misses;
  evictions = site.evictions;
  site = site.number;
  clock = clock_of (state_in site);
  records = record_count site;
}

abbrev pub basis_in : Site → ℕ → Basis
basis_in site now = record {
  visible = visible_in (state_in site) now;
  clock = clock_of (state_in site);
  recorded = λ key. has_register ((state_in site).map key);
  full = nat_le (most_records site) (record_count site);
  stats = stats_in site;
}

-- what it issues on a request at a moment
abbrev pub issued_in : Site → ℕ → Request → List Act
issued_in site now request = issued now (visible_in (state_in site) now) request

-- the site has issued these, one after the other
abbrev pub HasIssued : Site → Site → List Act → Type 0
HasIssued old new acts = Same (issue_all old.number acts (state_in old)) (state_in new)

-- after accesses of these keys
abbrev pub HasIssuedAfter : List (List ℕ) → Site → Site → List Act → Type 0
HasIssuedAfter keys old new acts = Same (issue_all old.number acts (accessed keys (state_in old))) (state_in new)

-- whose bytes the first of these acts evicts; no request issues two writes
abbrev pub victim_in : Site → List Act → Option (List ℕ)
victim_in site [] = None
victim_in site (act ∷ acts) = victim_by act (state_in site).stock

abbrev pub FirstVictimFits : Site → List Act → Type 0
FirstVictimFits site [] = Unit {0}
FirstVictimFits site (act ∷ acts) = VictimFits act (state_in site).stock

-- nothing that it was told at its start, and not its number, changes
abbrev pub Remains : Site → Site → Type 0
Remains old new = (new.number ≡ old.number) × (limits_of new ≡ limits_of old)

-- nor does what it heard of the others, and which it holds for retired
abbrev pub Stays : Site → Site → Type 0
Stays old new = (new.number ≡ old.number) × (limits_of new ≡ limits_of old) × (heard_in new ≡ heard_in old)

-- nothing that it counts, and no flush that waits, changes
abbrev pub Rests : Site → Site → Type 0
Rests old new = (counts_in new ≡ counts_in old) × (waiting_in new ≡ waiting_in old)

-- what a fetch does, by its reply: it shows what is found and counts it, or memory was wanted to show it and nothing is counted
abbrev pub fetched : Site → ℕ → List (List ℕ) → Bool → List Found
fetched site now keys numbers = found_of numbers (visible_in (state_in site) now) keys

abbrev pub FetchDoes : Site → Site → ℕ → List (List ℕ) → Bool → Reply → Type 0
FetchDoes old new now keys numbers reply =
    Stays old new × (waiting_in new ≡ waiting_in old)
    × (((reply ≡ Values (fetched old now keys numbers))
    × Same (accessed (keys_found (fetched old now keys numbers)) (state_in old)) (state_in new)
    × (let found = length (fetched old now keys numbers) in counts_in new ≡ counted_on (counts_in old) found (length keys - found)))
    ⊎ ((reply ≡ OutOfMemory) × Same (state_in old) (state_in new) × (counts_in new ≡ counts_in old)
    × (is_some_found (fetched old now keys numbers) ≡ true)))

-- what a fetch that touches does, by its reply: it shows what is found and touches each of that, or it is refused and changes
-- nothing
abbrev pub touched_in : Site → ℕ → ℕ → List (List ℕ) → Bool → List Found
touched_in site now expiry keys numbers = touched_of now expiry numbers (visible_in (state_in site) now) keys

-- acts are issued where stamps are left for them, and the reply is this; else the reply says that the clock has ended, and nothing
-- is changed
abbrev pub IssuesAs : List (List ℕ) → Site → Site → List Act → Reply → Reply → Type 0
IssuesAs keys old new acts answer reply =
    ((reply ≡ answer) × (lacks (clock_in old) acts ≡ false) × HasIssuedAfter keys old new acts)
    ⊎ ((reply ≡ ClockEnded) × (lacks (clock_in old) acts ≡ true) × Same (state_in old) (state_in new))

abbrev pub FetchTouchDoes : Site → Site → ℕ → ℕ → List (List ℕ) → Bool → Reply → Type 0
FetchTouchDoes old new now expiry keys numbers reply =
    let found = touched_in old now expiry keys numbers in
    IssuesAs (keys_found found) old new (touches_of expiry found) (Values found) reply
    ⊎ ((reply ≡ OutOfMemory) × (lacks (clock_in old) (touches_of expiry found) ≡ false) × Same (state_in old) (state_in new))

-- what a due flush does: it is carried out where a stamp is left for it
pub record FlushDoes (old new : Site) (now : ℕ) : Type 0 where
  pub issued : HasIssued old new (due_acts (waiting_in old) (clock_in old) now)
  pub waiting : waiting_in new ≡ waits_on (waiting_in old) (clock_in old) now
  pub counts : counts_in new ≡ counts_in old
  pub stays : Stays old new

-- what a request does at a site where no flush is due
pub record RequestDoes (old new : Site) (now : ℕ) (request : Request) (reply : Reply) : Type 0 where
  pub answer : Answers now (basis_in old now) request reply
  pub done : is_done reply ≡ true
      → HasIssuedAfter (accesses now (visible_in (state_in old) now) request) old new (issued_in old now request)
  pub refused : is_done reply ≡ false → Same (state_in old) (state_in new)
  pub counts : counts_in new ≡ cond (is_done reply)
      (evicted_on (victim_in old (issued_in old now request)) (counted (visible_in (state_in old) now) request (counts_in old)))
      (counts_in old)
  pub victim : is_done reply ≡ true → FirstVictimFits old (issued_in old now request)
  pub waiting : waiting_in new ≡ cond (is_done reply) (waits_after now request (waiting_in old)) (waiting_in old)
  pub stays : Stays old new

-- after a due flush the request does what it does; where no stamp is left for that flush the reply says so, and nothing is
-- changed
abbrev pub RequestDoesBy : Bool → Site → Site → ℕ → Request → Reply → Type 0
RequestDoesBy true old new now request reply = (reply ≡ ClockEnded) × Same (state_in old) (state_in new) × Rests old new × Stays old new
RequestDoesBy false old new now request reply = RequestDoes old new now request reply

pub record ActDoes (old new : Site) (now : ℕ) (request : Request) (reply : Reply) : Type 0 where
  pub mid : Site
  pub flush : FlushDoes old mid now
  pub recorded : IsRecordCount (state_in mid).map (record_count mid)
  pub held : IsHeldCount (state_in mid).stock.held (held_count mid)
  pub does : RequestDoesBy (is_stuck (waiting_in old) (clock_in old) now) mid new now request reply

-- the reply in which a client is told what came of a request
abbrev pub reply_in : Result Acted AllocError → Reply
reply_in (Ok acted) = acted.reply
reply_in (Err refused) = OutOfMemory

-- the reply twice more, where that is wanted
abbrev pub twice : Bool → Reply → Option (Reply × Reply)
twice true reply = Some (reply, reply)
twice false reply = None

-- what is told beside a reply: the reply twice more, whose bytes went for what was stored, and what was made of older bytes
pub record TellsBeside (site : Site) (wanted : Bool) (acts : List Act) (bytes : Option (List ℕ × ℕ)) (acted : Acted) : Type 0 where
  pub said : acted.reply ≡ OutOfMemory → ⊥
  pub copies : acted.copies ≡ twice wanted acted.reply
  pub victim : acted.victim ≡ cond (is_done acted.reply) (victim_in site acts) None
  pub made : acted.made ≡ cond (is_done acted.reply) bytes None

-- where nothing is stored
pub record TellsPlain (wanted : Bool) (acted : Acted) : Type 0 where
  pub said : acted.reply ≡ OutOfMemory → ⊥
  pub copies : acted.copies ≡ twice wanted acted.reply
  pub victim : acted.victim ≡ None
  pub made : acted.made ≡ None

-- what a command does and tells
pub record ActTells (old new : Site) (now : ℕ) (request : Request) (wanted : Bool) (acted : Acted) : Type 0 where
  pub does : ActDoes old new now request acted.reply
  pub told : TellsBeside does.mid wanted (issued_in does.mid now request) (made_on now (visible_in (state_in does.mid) now) request) acted

-- by its result: where memory is wanted, the command is answered so
abbrev pub ActFullDoes : Site → Site → ℕ → Request → Bool → Result Acted AllocError → Type 0
ActFullDoes old new now request wanted (Ok acted) = ActTells old new now request wanted acted
ActFullDoes old new now request wanted (Err refused) = ActDoes old new now request OutOfMemory

-- a tick is a due flush alone, and says whether there was one
pub record TickDoes (old new : Site) (now : ℕ) (done : Bool) : Type 0 where
  pub flush : FlushDoes old new now
  pub said : done ≡ flushes_due (waiting_in old) (clock_in old) now

-- what a reap issues at a site where no flush is due
abbrev pub to_reap : Site → ℕ → List ℕ → Bool
to_reap site now key = is_reapable site.number (limits_of site).reap_after now (version_in ((state_in site).map key))

abbrev pub reaped_in : Site → ℕ → List ℕ → List Act
reaped_in site now key = reap_acts site.number (limits_of site).reap_after now key (version_in ((state_in site).map key))

-- what it does, by its result: it deletes exactly a key that is to be reaped, and is refused exactly where no stamp is left
abbrev pub ReapResult : Site → Site → ℕ → List ℕ → Result Bool ReapError → Type 0
ReapResult old new now key (Ok done) = (done ≡ to_reap old now key) × (lacks (clock_in old) (reaped_in old now key) ≡ false)
    × HasIssued old new (reaped_in old now key)
ReapResult old new now key (Err reaps.ClockEnded) = (lacks (clock_in old) (reaped_in old now key) ≡ true)
    × Same (state_in old) (state_in new)
ReapResult old new now key (Err reaps.Memory) = ⊥

pub record ReapDoes (old new : Site) (now : ℕ) (key : List ℕ) (result : Result Bool ReapError) : Type 0 where
  pub mid : Site
  pub flush : FlushDoes old mid now
  pub does : ReapResult mid new now key result
  pub rests : Rests mid new
  pub stays : Stays mid new

-- a site takes a parcel that is for it, that another site of as many can have made, which it does not hold for retired, and whose base
-- it knows
abbrev pub Takes : Site → Parcel → Type 0
Takes site parcel = (parcel.to ≡ site.number) × (is_sound (length site.vector) site.number parcel ≡ true)
    × (is_in (retired_in site) parcel.from ≡ false) × (vector_joined site.vector parcel.base ≡ site.vector)

-- it brings a record of a key that has none
abbrev pub brings_new : Site → Parcel → Bool
brings_new site parcel = list_any (λ e. not (has_register ((state_in site).map e.0))) parcel.records

-- why it does not, tested in this order; want of memory comes last, and only for a key that has no record yet
abbrev pub RefusesFor : Site → Parcel → TakeError → Type 0
RefusesFor site parcel NotForMe = parcel.to ≢ site.number
RefusesFor site parcel UnknownSite = (parcel.to ≡ site.number) × (is_sound (length site.vector) site.number parcel ≡ false)
RefusesFor site parcel Retired = (parcel.to ≡ site.number) × (is_sound (length site.vector) site.number parcel ≡ true)
    × (is_in (retired_in site) parcel.from ≡ true)
RefusesFor site parcel Gap = (parcel.to ≡ site.number) × (is_sound (length site.vector) site.number parcel ≡ true)
    × (is_in (retired_in site) parcel.from ≡ false) × (vector_joined site.vector parcel.base ≢ site.vector)
RefusesFor site parcel takes.Memory = Takes site parcel × (brings_new site parcel ≡ true)

-- what a take does, by its result
abbrev pub TakeDoes : Site → Site → Parcel → Result Taken Refused → Type 0
TakeDoes old new parcel (Ok taken) = Takes old parcel
    × Same (take old.number (sifted_delta (horizon_in old) (delta_of parcel)) (state_in old)) (state_in new)
    × (IsTrue taken.rose ↔ (vector_joined old.vector parcel.upto ≢ old.vector)) × (held_count new + taken.dropped ≡ held_count old)
    × (heard_in new ≡ looked (heard (looked_in old) parcel.from parcel.upto parcel.retired) old.number new.vector)
TakeDoes old new parcel (Err refused) = RefusesFor old parcel refused.why × (refused.parcel ≡ parcel) × Same (state_in old) (state_in new)
    × (heard_in new ≡ heard_in old)

-- a number of another site that is configured
abbrev pub IsOther : Site → ℕ → Type 0
IsOther site to = (1 ≤ to) × (to ≤ length site.vector) × (to ≢ site.number)

-- what a retirement does, by its result: it tells whether the other site was not held for retired before
abbrev pub RetireDoes : Site → Site → ℕ → Result Bool RetireError → Type 0
RetireDoes old new other (Ok fresh) = IsOther old other × (fresh ≡ not (is_in (retired_in old) other)) × Same (state_in old) (state_in new)
    × (heard_in new ≡ looked (retires_in (looked_in old) other) old.number old.vector)
RetireDoes old new other (Err retires.NoSuchSite) = (IsOther old other → ⊥) × Same (state_in old) (state_in new)
    × (heard_in new ≡ heard_in old)
RetireDoes old new other (Err retires.Memory) = ⊥

-- what a removal does, and how many records it drops
pub record RemoveDoes (old new : Site) (count : ℕ) : Type 0 where
  pub left : Same (removed (horizon_in old) (state_in old)) (state_in new)
  pub counted : record_count new + count ≡ record_count old
  pub rests : Rests old new
  pub stays : Stays old new

-- a parcel to another site, of all that is known and that it was not heard to know; it is within the ranges of a frame
pub record IsSent (site : Site) (to : ℕ) (parcel : Parcel) : Type 0 where
  pub sender : parcel.from ≡ site.number
  pub addressee : parcel.to ≡ to
  pub base : parcel.base ≡ row_of (heard_in site).rows to
  pub upto : parcel.upto ≡ site.vector
  pub retired : parcel.retired ≡ retired_in site
  pub floor : parcel.floor ≡ (state_in site).floor
  pub rising : Rising parcel.records
  pub filled : All (λ e. rec_means e.1 ≡ (None, None) → ⊥) parcel.records
  pub records : (q : List ℕ) → listed_at parcel.records q ≡ since (row_of (heard_in site).rows to) ((state_in site).map q)
  pub ranges : InRange parcel

-- why there is no parcel, tested in this order
abbrev pub SendRefuses : Site → ℕ → SendError → Type 0
SendRefuses site to NoSuchSite = IsOther site to → ⊥
SendRefuses site to sends.Retired = IsOther site to × (is_in (retired_in site) to ≡ true)
SendRefuses site to sends.Memory = IsOther site to × (is_in (retired_in site) to ≡ false)

-- what a send does, by its result
abbrev pub SendDoes : Site → ℕ → Result Parcel SendError → Type 0
SendDoes site to (Ok parcel) = IsOther site to × (is_in (retired_in site) to ≡ false) × IsSent site to parcel
SendDoes site to (Err why) = SendRefuses site to why

-- what an eviction does: a key's bytes are held no longer, and are counted where they were; no version changes
pub record EvictDoes (old new : Site) (key : List ℕ) (done : Bool) : Type 0 where
  pub told : done ≡ is_some ((state_in old).stock.held key)
  pub left : Same (with_stock (dropped key (state_in old).stock) (state_in old)) (state_in new)
  pub counts : counts_in new ≡ cond done (evicted_on (Some key) (counts_in old)) (counts_in old)
  pub waiting : waiting_in new ≡ waiting_in old
  pub stays : Stays old new

-- what a juggle does: the one move that is due in a class, if any, or nothing where memory was wanted for it
abbrev pub JuggleDoes : Site → Site → ℕ → Result Bool AllocError → Type 0
JuggleDoes old new class (Ok moved) = (moved ≡ is_some (juggled_by same_key ((state_in old).stock.lists class)))
    × Same (with_stock (juggled_in class (state_in old).stock) (state_in old)) (state_in new)
JuggleDoes old new class (Err refused) = IsSome (juggled_by same_key ((state_in old).stock.lists class))
    × Same (state_in old) (state_in new)

-- what a site can be made of: 1 to 16 sites, a number of one of them, a page for each slab class and not too many, and 1 to a million
-- records at most
abbrev pub SitesInRange : Setup → Type 0
SitesInRange setup = (1 ≤ setup.sites) × (setup.sites ≤ most_sites)

abbrev pub NumberInRange : Setup → Type 0
NumberInRange setup = (1 ≤ setup.site) × (setup.site ≤ setup.sites)

abbrev pub PagesInRange : Setup → Type 0
PagesInRange setup = (class_count ≤ setup.pages) × (setup.pages ≤ most_pages)

abbrev pub RecordsInRange : Setup → Type 0
RecordsInRange setup = (1 ≤ setup.max_records) × (setup.max_records ≤ 1000000)

-- why there is no site, tested in this order
abbrev pub SetupRefuses : Setup → SetupError → Type 0
SetupRefuses setup Sites = SitesInRange setup → ⊥
SetupRefuses setup SiteNumber = SitesInRange setup × (NumberInRange setup → ⊥)
SetupRefuses setup TooFewPages = SitesInRange setup × NumberInRange setup × (setup.pages < class_count)
SetupRefuses setup TooManyPages = SitesInRange setup × NumberInRange setup × (most_pages < setup.pages)
SetupRefuses setup Records = SitesInRange setup × NumberInRange setup × PagesInRange setup × (RecordsInRange setup → ⊥)
SetupRefuses setup setups.Memory = SitesInRange setup × NumberInRange setup × PagesInRange setup × RecordsInRange setup

-- what opening a site does, by its result
abbrev pub OpenDoes : Setup → Result Site SetupError → Type 0
OpenDoes setup (Ok site) = SitesInRange setup × NumberInRange setup × PagesInRange setup × RecordsInRange setup × (site.number ≡ setup.site)
    × (limits_of site ≡ record { max_records = setup.max_records; reap_after = setup.reap_after }) × (counts_in site ≡ none_counted)
    × (waiting_in site ≡ None) × (heard_in site ≡ none_heard setup.sites) × Same (fresh setup.sites setup.pages) (state_in site)
OpenDoes setup (Err why) = SetupRefuses setup why

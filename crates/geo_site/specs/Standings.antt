-- What a site stands at: all that it knows, keeps, holds and counts, but for the order in which its bytes would go. Each event is one
-- step of it, given whose bytes went.
use Rattle.std.specs.Prelude.{◌≡◌, ℕ, ◌+◌, nat_le, List, [], ◌∷◌, Option, None, Some, option_map}
use Rattle.geo_stamp.specs.Stamps.{Moment}
use Rattle.geo_stamp.specs.Vectors.{zeros, greatest_of}
use Rattle.geo_stamp.specs.Acks.{Heard, none_heard}
use Rattle.geo_values.specs.Held.{digest_of, digest_at}
use Rattle.geo_versions.specs.Maps.{has_register, listed_at}
use Rattle.geo_records.specs.Operations.{Act, Record, version_in}
use Rattle.geo_delta.specs.declared.parcel.Parcel.{Parcel}
use Rattle.geo_requests.specs.declared.request.Request.{Request}
use Rattle.geo_site.specs.declared.setup.Setup.{Setup}
use Rattle.geo_site.specs.declared.setup.Limits.{Limits}
use Rattle.geo_site.specs.declared.site.Site.{Site}
use Rattle.geo_site.specs.declared.state.SiteState.{SiteState}
use Rattle.geo_site.specs.Entries.{Held, Visible, Basis, Counts, none_counted, counted, evicted_on, entry_in, named_by, issued, waits_after, due_acts, waits_on, reap_acts}
use Rattle.geo_site.specs.Machine.{act_held, held_with, without}
use Rattle.geo_site.specs.Sites.{state_in, heard_in, waiting_in, counts_in, limits_of}
use Rattle.geo_site.specs.Tables as tables
use Rattle.geo_site.specs.Tables.{Table, issue_at, take_at, remove_at, retire_at, brought_in}

-- which site it is, and what it goes by
pub record Who : Type 0 where
  pub number : ℕ
  pub limits : Limits

abbrev pub who_in : Site → Who
who_in site = record { number = site.number; limits = limits_of site }

abbrev pub who_of : Setup → Who
who_of setup = record { number = setup.site; limits = record { max_records = setup.max_records; reap_after = setup.reap_after } }

pub record Standing : Type 0 where
  pub vector : List ℕ
  pub rows : Heard
  pub floor : Option Moment
  pub map : List ℕ → Record
  pub held : Held
  pub waiting : Option ℕ
  pub counts : Counts

abbrev pub standing_in : Site → Standing
standing_in site = record {
  vector = (state_in site).vector;
  rows = heard_in site;
  floor = (state_in site).floor;
  map = (state_in site).map;
  held = (state_in site).stock.held;
  waiting = waiting_in site;
  counts = counts_in site;
}

-- a site that knows nothing
abbrev pub nothing_yet : ℕ → Standing
nothing_yet sites = record {
  vector = zeros sites;
  rows = none_heard sites;
  floor = None;
  map = λ key. (None, None);
  held = λ key. None;
  waiting = None;
  counts = none_counted;
}

-- plain data says what a site stands at, and of the bytes that it holds their SHA-256 and length
pub record Describes (state : SiteState) (st : Standing) : Type 0 where
  pub vector : state.vector ≡ st.vector
  pub rows : state.rows ≡ st.rows
  pub floor : state.floor ≡ st.floor
  pub map : (key : List ℕ) → listed_at state.records key ≡ st.map key
  pub held : (key : List ℕ) → digest_at state.held key ≡ option_map digest_of (st.held key)
  pub waiting : state.waiting ≡ st.waiting
  pub counts : record { hits = state.hits; misses = state.misses; evictions = state.evictions } ≡ st.counts

-- the greatest time that it knows
abbrev pub clock_at : Standing → ℕ
clock_at st = greatest_of st.vector

-- what it keeps, but for values
abbrev pub table_of : Standing → Table
table_of st = record { vector = st.vector; heard = st.rows; floor = st.floor; kept = st.map }

-- the time up to which every site that it does not hold for retired is known to know each operation that one of them knows
abbrev pub horizon_at : Who → Standing → ℕ
horizon_at who st = tables.horizon_at who.number (table_of st)

-- what is visible at a moment
abbrev pub visible_at : Standing → ℕ → Visible
visible_at st now key = entry_in now (version_in (st.map key)) (st.held key)

-- of what is held, what the versions in a map name
abbrev pub held_by : (List ℕ → Record) → Held → Held
held_by map held key = named_by (version_in (map key)) (held key)

-- it keeps this now, and of what it holds what the versions in it name
abbrev pub keeps : Table → Held → Standing → Standing
keeps t held st = record {
  vector = t.vector;
  rows = t.heard;
  floor = t.floor;
  map = t.kept;
  held = held_by t.kept held;
  waiting = st.waiting;
  counts = st.counts;
}

-- it issues an operation
abbrev pub issue : Who → Act → Standing → Standing
issue who act st = keeps (issue_at who.number act (table_of st)) (act_held act st.held) st

-- one after the other
abbrev pub issue_all : Who → List Act → Standing → Standing
issue_all who [] st = st
issue_all who (act ∷ acts) st = issue_all who acts (issue who act st)

-- it holds the bytes of a victim no longer, if there is one
abbrev pub lets_go : Option (List ℕ) → Standing → Standing
lets_go victim st = record st { held = without victim st.held }

abbrev pub waits : Option ℕ → Standing → Standing
waits waiting st = record st { waiting = waiting }

abbrev pub counts_as : Counts → Standing → Standing
counts_as counts st = record st { counts = counts }

-- it carries out a flush that is due
abbrev pub flushed : Who → ℕ → Standing → Standing
flushed who now st = waits (waits_on st.waiting (clock_at st) now) (issue_all who (due_acts st.waiting (clock_at st) now) st)

-- what it issues on a request
abbrev pub issued_at : Standing → ℕ → Request → List Act
issued_at st now request = issued now (visible_at st now) request

-- it carries out a request, for which the bytes of a victim go first, if there is one
abbrev pub carries_out : Who → ℕ → Request → Option (List ℕ) → Standing → Standing
carries_out who now request victim st =
    waits (waits_after now request st.waiting)
    (counts_as (evicted_on victim (counted (visible_at st now) request st.counts))
    (issue_all who (issued_at st now request) (lets_go victim st)))

-- what it goes by when it answers, where so many keys have a record, and of so many bytes are held
abbrev pub basis_at : Who → Standing → ℕ → ℕ → ℕ → Basis
basis_at who st now records items = record {
  visible = visible_at st now;
  clock = clock_at st;
  recorded = λ key. has_register (st.map key);
  full = nat_le who.limits.max_records records;
  stats = record {
    curr_items = items;
    get_hits = st.counts.hits;
    get_misses = st.counts.misses;
    evictions = st.counts.evictions;
    site = who.number;
    clock = clock_at st;
    records = records;
  };
}

-- it joins what a parcel brings, but for what every site was known to know before, and keeps its horizon before and after
abbrev pub takes : Who → Parcel → Standing → Standing
takes who parcel st = keeps (take_at who.number (brought_in parcel) (table_of st)) st.held st

-- it drops the records without a version of which every site knows all
abbrev pub removes : Who → Standing → Standing
removes who st = record st { map = (remove_at who.number (table_of st)).kept }

-- it holds the bytes of a key no longer, and counts that where it held any
abbrev pub evicts : List ℕ → Standing → Standing
evicts key st = counts_as (evicted_on (Some key) st.counts) (lets_go (Some key) st)

-- it holds bytes that were offered
abbrev pub admits : List ℕ → List ℕ → Standing → Standing
admits key bytes st = record st { held = held_with key bytes st.held }

-- it holds a site for retired, and keeps its horizon before and after
abbrev pub retires : Who → ℕ → Standing → Standing
retires who other st = record st { rows = (retire_at who.number other (table_of st)).heard }

-- what it issues to reap a key
abbrev pub reaped_at : Who → Standing → ℕ → List ℕ → List Act
reaped_at who st now key = reap_acts who.number who.limits.reap_after now key (version_in (st.map key))

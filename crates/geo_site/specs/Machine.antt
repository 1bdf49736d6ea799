-- One site as a machine: what it knows of each site's clock, its floor, what it keeps of each key and the stock of values that it
-- holds. Each event is one step of it. (Joins of states and of deltas: Almeida et al. 2018; the clock: Lamport 1978.)
use Rattle.std.specs.Prelude.{◌≡◌, ◌≢◌, ◌==◌, min, ℕ, zero, suc, ◌+◌, ◌≤◌, Bool, true, false, cond, nat_le, List, [], ◌∷◌, length, Option, None, Some, is_some, IfSome}
use Rattle.geo_stamp.specs.Acks.{Heard, row_of}
use Rattle.geo_stamp.specs.Retired.{set_fits}
use Rattle.geo_stamp.specs.Stamps.{Moment, most_sites}
use Rattle.geo_stamp.specs.Vectors.{zeros, vector_joined, greatest_of, raised}
use Rattle.geo_records.specs.Keys.{same_key}
use Rattle.std.specs.List.{IsDistinct, list_any}
use Rattle.geo_versions.specs.Maps.{has_register, recent_both, remaining}
use Rattle.geo_records.specs.Operations.{Act, Operation, Record, record_joined, floor_joined, above_both, body_of, expiry_of, flush_of, version_in}
use Rattle.geo_records.specs.Operations.Act.{Write, Delete, Touch, Flush}
pub use Rattle.geo_delta.specs.Changes.{knows_record, is_unknown_floor, knows_floor}
use Rattle.geo_records.specs.declared.version.Version.{Version}
use Rattle.geo_slabs.specs.Storage.{chunk_bytes}
use Rattle.geo_values.specs.Stock.{Stock, first_stock, dropped, hit_at, with_room, victim_for, arrived, kept_where, IsHeldIn}
use Rattle.geo_values.specs.Stock as stocks
use Rattle.geo_site.specs.Entries.{Held, names, Visible, entry_in}

pub record SiteState : Type 0 where
  pub vector : List ℕ
  pub floor : Option Moment
  pub map : List ℕ → Record
  pub stock : Stock

-- a site that knows nothing, and has so many pages for values
abbrev pub fresh : ℕ → ℕ → SiteState
fresh sites pages = record { vector = zeros sites; floor = None; map = λ _. (None, None); stock = first_stock pages }

-- the greatest time that it knows
abbrev pub clock_of : SiteState → ℕ
clock_of st = greatest_of st.vector

-- what is visible at a moment
abbrev pub visible_in : SiteState → ℕ → Visible
visible_in st now key = entry_in now (version_in (st.map key)) (st.stock.held key)

-- of what is held, what the versions name
abbrev pub stays_by : Option Version → Option (List ℕ) → Bool
stays_by version None = true
stays_by version (Some bytes) = names version bytes

abbrev pub stays_in : (List ℕ → Record) → Stock → List ℕ → Bool
stays_in map stock key = stays_by (version_in (map key)) (stock.held key)

abbrev pub settled : (List ℕ → Record) → Stock → Stock
settled map stock = kept_where (stays_in map stock) stock

-- the least slab class whose chunks have room for so many bytes, looked for in so many from one on
abbrev pub class_from : ℕ → ℕ → ℕ → ℕ
class_from zero class bytes = class
class_from (suc more) class bytes = cond (nat_le bytes (chunk_bytes class)) class (class_from more (class + 1) bytes)

abbrev pub class_for : ℕ → ℕ
class_for bytes = class_from 14 0 bytes

-- bytes are stored under a key: what it had is taken out, then room is made in their class
abbrev pub stored : List ℕ → List ℕ → Stock → Stock
stored key bytes stock = let class = class_for (length bytes) in arrived key bytes class (with_room class (dropped key stock))

-- a site's own write stores its bytes
abbrev pub act_stock : Act → Stock → Stock
act_stock (Write key bytes flags expiry) stock = stored key bytes stock
act_stock (Delete key) stock = stock
act_stock (Touch key expiry) stock = stock
act_stock Flush stock = stock

-- which key's bytes a write evicts
abbrev pub victim_by : Act → Stock → Option (List ℕ)
victim_by (Write key bytes flags expiry) stock = victim_for (class_for (length bytes)) (dropped key stock)
victim_by (Delete key) stock = None
victim_by (Touch key expiry) stock = None
victim_by Flush stock = None

-- a victim is another key than the one that is written, and bytes of the same class were held of it
abbrev pub VictimFits : Act → Stock → Type 0
VictimFits (Write key bytes flags expiry) stock =
    IfSome (victim_by (Write key bytes flags expiry) stock) (λ victim. (same_key victim key ≡ false)
    × IsHeldIn stock victim (class_for (length bytes)))
VictimFits (Delete key) stock = Unit {0}
VictimFits (Touch key expiry) stock = Unit {0}
VictimFits Flush stock = Unit {0}

-- keys are found, one after the other
abbrev pub hit_all : List (List ℕ) → Stock → Stock
hit_all [] stock = stock
hit_all (key ∷ keys) stock = hit_all keys (hit_at key stock)

abbrev pub with_stock : Stock → SiteState → SiteState
with_stock stock st = record { vector = st.vector; floor = st.floor; map = st.map; stock = stock }

abbrev pub accessed : List (List ℕ) → SiteState → SiteState
accessed keys st = with_stock (hit_all keys st.stock) st

-- of what is held, a write puts its bytes in
abbrev pub act_held : Act → Held → Held
act_held (Write k bytes flags expiry) held key = cond (same_key key k) (Some bytes) (held key)
act_held (Delete k) held key = held key
act_held (Touch k expiry) held key = held key
act_held Flush held key = held key

-- without the bytes of a victim
abbrev pub is_victim : Option (List ℕ) → List ℕ → Bool
is_victim None key = false
is_victim (Some victim) key = same_key key victim

abbrev pub without : Option (List ℕ) → Held → Held
without victim held key = cond (is_victim victim key) None (held key)

-- of what is held, these bytes are held of the key
abbrev pub held_with : List ℕ → List ℕ → Held → Held
held_with key bytes held q = cond (same_key q key) (Some bytes) (held q)

-- a victim is another key than the one that is written, and a value of the same class is held of it
abbrev pub IsVictim : Held → Act → List ℕ → Type 0
IsVictim held (Write key bytes flags expiry) victim = (same_key victim key ≡ false) × (old : List ℕ) × (held victim ≡ Some old)
    × (class_for (length old) ≡ class_for (length bytes))
IsVictim held (Delete key) victim = ⊥
IsVictim held (Touch key expiry) victim = ⊥
IsVictim held Flush victim = ⊥

-- there is no victim, or it is one of the first of these acts; no request issues two writes
abbrev pub VictimOf : Held → List Act → Option (List ℕ) → Type 0
VictimOf held acts None = Unit {0}
VictimOf held [] (Some victim) = ⊥
VictimOf held (act ∷ acts) (Some victim) = IsVictim held act victim

-- the next operation of a site: its time is one more than the greatest that it knows
abbrev pub next_operation : ℕ → ℕ → Act → Operation
next_operation clock number act = record { stamp = record { time = clock + 1; site = number }; act = act }

-- it issues an operation
abbrev pub map_after : SiteState → Operation → List ℕ → Record
map_after st op key = above_both (floor_joined st.floor (flush_of op)) (record_joined (st.map key) (body_of key op, expiry_of key op))

abbrev pub issue : ℕ → Act → SiteState → SiteState
issue number act st =
    let op = next_operation (clock_of st) number act in
    record {
      vector = raised st.vector number (clock_of st + 1);
      floor = floor_joined st.floor (flush_of op);
      map = map_after st op;
      stock = settled (map_after st op) (act_stock act st.stock);
    }

-- one after the other
abbrev pub issue_all : ℕ → List Act → SiteState → SiteState
issue_all number [] st = st
issue_all number (act ∷ acts) st = issue_all number acts (issue number act st)

-- what a parcel brings
pub record Delta : Type 0 where
  pub upto : List ℕ
  pub floor : Option Moment
  pub map : List ℕ → Record

-- it takes what a parcel brings: all is joined, and the own clock is raised to the greatest
abbrev pub map_with : SiteState → Delta → List ℕ → Record
map_with st d key = above_both (floor_joined st.floor d.floor) (record_joined (st.map key) (d.map key))

abbrev pub take : ℕ → Delta → SiteState → SiteState
take number d st =
    let vector = vector_joined st.vector d.upto in
    record {
      vector = raised vector number (greatest_of vector);
      floor = floor_joined st.floor d.floor;
      map = map_with st d;
      stock = settled (map_with st d) st.stock;
    }

-- of what a parcel brings, what not every site knows already
abbrev pub sifted_delta : ℕ → Delta → Delta
sifted_delta horizon d = record { upto = d.upto; floor = d.floor; map = λ key. recent_both horizon (d.map key) }

-- it drops the records without a version of which every site knows all
abbrev pub removed : ℕ → SiteState → SiteState
removed horizon st = record { vector = st.vector; floor = st.floor; map = λ key. remaining horizon (st.map key); stock = st.stock }

-- two states are one
pub record Same (old new : SiteState) : Type 0 where
  pub vector : new.vector ≡ old.vector
  pub floor : new.floor ≡ old.floor
  pub map : (key : List ℕ) → new.map key ≡ old.map key
  pub stock : stocks.Same old.stock new.stock

-- what was heard of each of so many sites has as many entries, and no site past them is held for retired
pub record HasRows (sites : ℕ) (heard : Heard) : Type 0 where
  pub many : (q : ℕ) → 1 ≤ q → q ≤ sites → length (row_of heard.rows q) ≡ sites
  pub fits : set_fits sites heard.set ≡ true

-- everything that is kept is known by the vector
abbrev pub Covers : List ℕ → (List ℕ → Record) → Type 0
Covers v map = (key : List ℕ) → knows_record v (map key) ≡ true

-- everything that is held is named by its version
abbrev pub Settled : (List ℕ → Record) → Held → Type 0
Settled map held = (key bytes : List ℕ) → held key ≡ Some bytes → names (version_in (map key)) bytes ≡ true

-- no expiry that is kept is below this, but for 0
abbrev pub EndsFrom : ℕ → (List ℕ → Record) → Type 0
EndsFrom least map = (key : List ℕ) (s : Moment) (e : ℕ) → (map key).1 ≡ Some (s, e) → e ≢ 0 → least ≤ e

-- the least of a moment and an expiry, where 0 is no end
abbrev pub earlier_of : ℕ → ℕ → ℕ
earlier_of least e = cond (e == 0) least (min least e)

-- the site's number is that of one of its vector's entries
abbrev pub Numbered : ℕ → List ℕ → Type 0
Numbered number v = (1 ≤ number) × (number ≤ length v) × (length v ≤ most_sites)

-- so many keys are among those
pub record IsCount (among : List ℕ → Bool) (count : ℕ) : Type 0 where
  pub keys : List (List ℕ)
  pub many : length keys ≡ count
  pub apart : IsDistinct same_key keys
  pub those : (key : List ℕ) → list_any (same_key key) keys ≡ among key

-- so many keys have a register
abbrev pub IsRecordCount : (List ℕ → Record) → ℕ → Type 0
IsRecordCount map = IsCount (λ key. has_register (map key))

-- of so many keys bytes are held
abbrev pub IsHeldCount : Held → ℕ → Type 0
IsHeldCount held = IsCount (λ key. is_some (held key))

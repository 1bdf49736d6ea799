-- When a site is what it knows: what it keeps of each key is what its operations name, but for what was dropped because every
-- site has long known it.
use Rattle.std.specs.Prelude.{◌≡◌, ℕ, ◌≤◌, ◌⊎◌, Bool, true, false, List, length, Option, None, Some}
use Rattle.geo_stamp.specs.Stamps.{Moment}
use Rattle.geo_stamp.specs.Vectors.{greatest_of, entry_of, Knows}
use Rattle.geo_records.specs.Operations.{Operation, Register, Record, winner, latest_expiry, record_of, floor_of, latest, Among}
use Rattle.geo_versions.specs.Maps.{since}
use Rattle.geo_records.specs.declared.body.Body.{Body}
use Rattle.geo_records.specs.declared.body.Body.TheVariants.{Gone, Value}
use Rattle.geo_site.specs.Entries.{Held}
use Rattle.geo_site.specs.Machine.{SiteState, Delta}

-- whether a body register has a value
abbrev pub has_value : Register Body → Bool
has_value None = false
has_value (Some (s, Gone)) = false
has_value (Some (s, Value digest flags length)) = true

-- a register at a time of which P holds
abbrev pub Old : {A : Type 0} → (ℕ → Type 0) → Register A → Type 0
Old P None = ⊥
Old P (Some x) = P x.0.time

-- what is kept is the register, or it was dropped, and is old
abbrev pub Kept : {A : Type 0} → (ℕ → Type 0) → Register A → Register A → Type 0
Kept P m r = (m ≡ r) ⊎ ((m ≡ None) × Old P r)

-- what is kept of a key, beside what the operations name; where they name a value it is kept whole
pub record Holds (P : ℕ → Type 0) (m : Record) (ops : List Operation) (key : List ℕ) : Type 0 where
  pub body : Kept P m.0 (winner ops key)
  pub expiry : Kept P m.1 (latest_expiry ops key)
  pub whole : has_value (winner ops key) ≡ true → m ≡ record_of ops key

-- a time at or below a horizon
abbrev pub UpTo : ℕ → ℕ → Type 0
UpTo horizon t = t ≤ horizon

-- a vector and a floor are those of the operations, of which a site with this number knows or told all
pub record Spans (number : ℕ) (vector : List ℕ) (floor : Option Moment) (ops : List Operation) : Type 0 where
  pub clock : greatest_of vector ≡ latest ops
  pub own : entry_of vector number ≡ latest ops
  pub covers : (op : Operation) → Among ops op → Knows vector op.stamp
  pub positive : (op : Operation) → Among ops op → 1 ≤ op.stamp.time
  pub floors : floor ≡ floor_of ops

-- a site's state is what it knows and holds, but for what it dropped up to a horizon
pub record StateOf (sites number horizon : ℕ) (st : SiteState) (ops : List Operation) (held : Held) : Type 0 where
  pub many : length st.vector ≡ sites
  pub tells : Spans number st.vector st.floor ops
  pub behind : horizon ≤ latest ops
  pub holds : (key : List ℕ) → Holds (UpTo horizon) (st.map key) ops key
  pub same_held : (key : List ℕ) → st.stock.held key ≡ held key

-- what a parcel brings is what its sender kept, but for what the base knows; what its sender dropped has a time of which P holds
pub record DeltaOf (sites sender : ℕ) (P : ℕ → Type 0) (base : List ℕ) (d : Delta) (ops : List Operation) : Type 0 where
  pub many : length d.upto ≡ sites
  pub tells : Spans sender d.upto d.floor ops
  pub kept : List ℕ → Record
  pub holds : (key : List ℕ) → Holds P (kept key) ops key
  pub lacking : (key : List ℕ) → d.map key ≡ since base (kept key)

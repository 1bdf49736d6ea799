-- What a site knows of its keys: its floor, and what it has at each key.
use Rattle.std.specs.Prelude.{ℕ, List, Option, length}
use Rattle.std.specs.Map.{keys_of}
pub use Rattle.geo_versions.specs.Records.{Rec, rec_means, record_at, listed_at, has_register, is_unknown, since, has_ended, is_old, recent, recent_both, sifted, is_over, remaining, Above, Rising}
use Rattle.geo_maps.specs.Maps.{HasRoomForList}
use Rattle.geo_stamp.specs.Stamps.{Moment}
use Rattle.geo_records.specs.Keys.{same_key}
use Rattle.geo_records.specs.Operations.{Record, State}
use Rattle.geo_versions.specs.declared.versions.Versions.{Versions}

-- the floor, if a flush is known
abbrev pub floor_in : Versions → Option Moment
floor_in v = v.floor

-- what it has at a key
abbrev pub record_in : Versions → List ℕ → Record
record_in v = record_at v.records

-- both
abbrev pub state_in : Versions → State
state_in v = (floor_in v, record_in v)

-- the keys that have a register, each once, and how many there are
abbrev pub keys_in : Versions → List (List ℕ)
keys_in v = keys_of v.records.entries

abbrev pub count_in : Versions → ℕ
count_in v = length (keys_in v)

-- there is room to join these records
abbrev pub HasRoomFor : Versions → List (List ℕ × Rec) → Type 0
HasRoomFor v records = HasRoomForList same_key v.records records

-- Which parcels have a frame. (Times and sites: geo_stamp. Keys: memcached's protocol.txt. A value has at most a mebibyte.)
use Rattle.std.specs.Prelude.{◌≡◌, ℕ, ◌≤◌, ◌^◌, ◌==◌, nat_le, nat_lt, not, ◌&&◌, Bool, true, List, length, Option, None, Some}
use Rattle.std.specs.List.{list_all}
use Rattle.geo_delta.specs.declared.parcel.Parcel.{Parcel}
use Rattle.geo_stamp.specs.Stamps.{Moment, last_time, most_sites}
use Rattle.geo_stamp.specs.Vectors.{greatest_of}
use Rattle.geo_stamp.specs.Retired.{set_fits}
use Rattle.geo_records.specs.Keys.{is_key}
use Rattle.geo_records.specs.Lengths.{longest_value}
use Rattle.geo_versions.specs.Maps.{Rec, Rising, has_register, rec_means}
use Rattle.geo_records.specs.Operations.{Register}
use Rattle.geo_records.specs.declared.body.Body.{Body}
use Rattle.geo_records.specs.declared.body.Body.TheVariants.{Gone, Value}

-- 2 to 16 sites, from one of them to another
unfoldable pub sites_fit : ℕ → ℕ → ℕ → Bool
sites_fit from to n = (nat_le 2 n && nat_le n most_sites) &&
    ((nat_le 1 from && nat_le from n) && ((nat_le 1 to && nat_le to n) && not (from == to)))

-- a stamp of one of n sites
unfoldable pub stamp_fits : ℕ → Moment → Bool
stamp_fits n s = (nat_le 1 s.time && nat_le s.time last_time) && ((nat_le 1 s.site && nat_le s.site most_sites) && nat_le s.site n)

unfoldable pub floor_fits : ℕ → Option Moment → Bool
floor_fits n None = true
floor_fits n (Some s) = stamp_fits n s

-- a digest has 32 bytes, and flags four
abbrev pub content_fits : Body → Bool
content_fits Gone = true
content_fits (Value digest flags size) = (length digest == 32) && (nat_lt flags (2 ^ 32) && nat_le size longest_value)

unfoldable pub body_fits : ℕ → Register Body → Bool
body_fits n None = true
body_fits n (Some (s, body)) = stamp_fits n s && content_fits body

-- an expiry has eight bytes
unfoldable pub expiry_fits : ℕ → Register ℕ → Bool
expiry_fits n None = true
expiry_fits n (Some (s, expiry)) = stamp_fits n s && nat_lt expiry (2 ^ 64)

-- what stands at a key has a register
unfoldable pub rec_fits : ℕ → Rec → Bool
rec_fits n r = body_fits n r.left.register && (expiry_fits n r.right.register && has_register (rec_means r))

unfoldable pub record_fits : ℕ → List ℕ × Rec → Bool
record_fits n e = is_key e.0 && rec_fits n e.1

-- what the types of a key and of its record say: a stamp of whichever site
abbrev pub is_ranged : List ℕ × Rec → Bool
is_ranged e = is_key e.0 && (body_fits most_sites e.1.left.register && expiry_fits most_sites e.1.right.register)

pub record InRange (p : Parcel) : Type 0 where
  pub sites : sites_fit p.from p.to (length p.base) ≡ true
  pub vectors : length p.upto ≡ length p.base
  pub base : greatest_of p.base ≤ last_time
  pub upto : greatest_of p.upto ≤ last_time
  pub retired : set_fits (length p.base) p.retired ≡ true
  pub places : length p.retired ≡ 16
  pub floor : floor_fits (length p.base) p.floor ≡ true
  pub records : list_all (record_fits (length p.base)) p.records ≡ true
  pub rising : Rising p.records

-- The bytes of a frame, part by part. All numbers are big-endian.
use Rattle.std.specs.Prelude.{◌≡◌, ◌⊎◌, Bool, ℕ, ◌+◌, ◌==◌, List, [], ◌∷◌, ◌++◌, length, codes, Option, None, Some, if◌then◌else◌}
use Rattle.std.specs.List.{flat_map}
use Rattle.std.specs.Int.{w32, w64, to_be_bytes}
use Rattle.sha2.specs.Sha256.{sha256}
use Rattle.geo_delta.specs.declared.parcel.Parcel.{Parcel}
use Rattle.geo_stamp.specs.Stamps.{Moment}
use Rattle.geo_stamp.specs.Retired.{no_sites, set_bits}
use Rattle.geo_versions.specs.Maps.{Rec}
use Rattle.geo_records.specs.Operations.{Register}
use Rattle.geo_records.specs.declared.body.Body.{Body}
use Rattle.geo_records.specs.declared.body.Body.TheVariants.{Gone, Value}
use Rattle.geo_frame.specs.Payloads.{Wanted, Payload}
use Rattle.geo_frame.specs.Payloads.Payload.{Tells, Asks, Offers}

-- a number of four bytes, and of eight
unfoldable pub four : ℕ → List ℕ
four n = to_be_bytes w32 n

unfoldable pub eight : ℕ → List ℕ
eight n = to_be_bytes w64 n

-- the time, and the site
unfoldable pub stamp_bytes : Moment → List ℕ
stamp_bytes s = eight s.time ++ s.site ∷ []

unfoldable pub vector_bytes : List ℕ → List ℕ
vector_bytes v = flat_map eight v

-- all zero where nothing was flushed
unfoldable pub floor_bytes : Option Moment → List ℕ
floor_bytes None = eight 0 ++ 0 ∷ []
floor_bytes (Some s) = stamp_bytes s

-- a tag, and what it stands for
unfoldable pub body_bytes : Register Body → List ℕ
body_bytes None = 0 ∷ []
body_bytes (Some (s, Gone)) = 1 ∷ stamp_bytes s
body_bytes (Some (s, Value digest flags size)) = 2 ∷ stamp_bytes s ++ digest ++ four flags ++ four size

unfoldable pub expiry_bytes : Register ℕ → List ℕ
expiry_bytes None = 0 ∷ []
expiry_bytes (Some (s, expiry)) = 1 ∷ stamp_bytes s ++ eight expiry

-- a key, and its two registers
unfoldable pub key_bytes : List ℕ → List ℕ
key_bytes key = length key ∷ key

unfoldable pub rec_bytes : Rec → List ℕ
rec_bytes r = body_bytes r.left.register ++ expiry_bytes r.right.register

unfoldable pub record_bytes : List ℕ × Rec → List ℕ
record_bytes e = key_bytes e.0 ++ rec_bytes e.1

-- how many records, and then each
unfoldable pub records_bytes : List (List ℕ × Rec) → List ℕ
records_bytes records = four (length records) ++ flat_map record_bytes records

-- from which site, to which, of how many
unfoldable pub sites_bytes : ℕ → ℕ → ℕ → List ℕ
sites_bytes from to n = from ∷ to ∷ n ∷ []

-- the sites that have retired, a bit each; version 1 has no such field
unfoldable pub retired_bytes : ℕ → List Bool → List ℕ
retired_bytes version set = if version == 1 then [] else eight (set_bits set)

-- the fields of a parcel in a version
unfoldable pub parcel_bytes : ℕ → Parcel → List ℕ
parcel_bytes version p = sites_bytes p.from p.to (length p.base) ++ vector_bytes p.base ++ vector_bytes p.upto
    ++ retired_bytes version p.retired ++ floor_bytes p.floor ++ records_bytes p.records

-- between which sites, the key, and the digest
unfoldable pub wanted_bytes : Wanted → List ℕ
wanted_bytes w = sites_bytes w.route.from w.route.to w.route.sites ++ key_bytes w.key ++ w.digest

-- a tag, and the bytes behind their length
unfoldable pub offered_bytes : Option (List ℕ) → List ℕ
offered_bytes None = 0 ∷ []
offered_bytes (Some bytes) = 1 ∷ four (length bytes) ++ bytes

-- the kind of a message, and its fields
unfoldable pub fields_of : Payload → List ℕ
fields_of (Tells p) = 1 ∷ parcel_bytes 2 p
fields_of (Asks w) = 2 ∷ wanted_bytes w
fields_of (Offers w bytes) = 3 ∷ wanted_bytes w ++ offered_bytes bytes

-- the magic, the version, and the length of the whole
unfoldable pub head_bytes : ℕ → ℕ → List ℕ
head_bytes version size = codes "GCDS" ++ version ∷ four size

-- nine bytes of head and 32 of digest stand around the fields
unfoldable pub content_of : ℕ → List ℕ → List ℕ
content_of version fields = head_bytes version (41 + length fields) ++ fields

unfoldable pub framed : ℕ → List ℕ → List ℕ
framed version fields = content_of version fields ++ sha256 (content_of version fields)

-- what is written: version 2
unfoldable pub frame_of : Payload → List ℕ
frame_of m = framed 2 (fields_of m)

-- version 1, which has parcels alone, and of these only such without retired sites
unfoldable pub old_frame_of : Parcel → List ℕ
old_frame_of p = framed 1 (parcel_bytes 1 p)

-- one spelling in each version
abbrev pub IsFrameOf : List ℕ → Payload → Type 0
IsFrameOf bytes (Tells p) = (bytes ≡ frame_of (Tells p)) ⊎ ((bytes ≡ old_frame_of p) × (p.retired ≡ no_sites))
IsFrameOf bytes (Asks w) = bytes ≡ frame_of (Asks w)
IsFrameOf bytes (Offers w b) = bytes ≡ frame_of (Offers w b)

abbrev pub longest_frame : ℕ
longest_frame = 1073741824

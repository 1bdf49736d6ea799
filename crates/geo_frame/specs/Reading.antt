-- Reading a frame from left to right, with the first fault that is met.
use Rattle.std.specs.Prelude.{◌≡◌, ℕ, zero, suc, ◌-◌, ◌^◌, ◌==◌, nat_le, nat_lt, Bool, not, ◌&&◌, ◌||◌, List, [], ◌∷◌, length, take, drop, slice_index, codes, Option, None, Some, Result, Ok, Err, if◌then◌else◌}
use Rattle.std.specs.Int.{w32, w64, from_be_bytes}
use Rattle.std.specs.Ordering.{nat_cmp, is_lt}
use Rattle.std.specs.Cmp.Lexicographic.{slice_cmp}
use Rattle.std.specs.Str.{bytes_eq}
use Rattle.sha2.specs.Sha256.{sha256}
use Rattle.geo_delta.specs.declared.parcel.Parcel.{Parcel}
use Rattle.geo_stamp.specs.Stamps.{Moment, last_time}
use Rattle.geo_stamp.specs.Retired.{no_sites, bits_set}
use Rattle.geo_records.specs.Keys.{is_key}
use Rattle.geo_versions.specs.Maps.{Rec, has_register}
use Rattle.geo_records.specs.Operations.{Register}
use Rattle.geo_records.specs.declared.body.Body.{Body}
use Rattle.geo_records.specs.declared.body.Body.TheVariants.{Gone, Value}
use Rattle.geo_frame.specs.declared.fault.FrameFault.{FrameFault}
use Rattle.geo_frame.specs.declared.fault.FrameFault.TheVariants.{Short, Magic, Version, Field, Order, Damaged, Trailing, Memory}
use Rattle.geo_frame.specs.declared.route.Route.{Route}
use Rattle.geo_delta.specs.Ranges.{sites_fit, stamp_fits}
use Rattle.geo_records.specs.Lengths.{longest_value}
use Rattle.geo_frame.specs.Payloads.{Wanted, Payload}
use Rattle.geo_frame.specs.Payloads.Payload.{Tells, Asks, Offers}
use Rattle.geo_frame.specs.Spelling.{longest_frame}

infixl 10 ◌>>=◌
abbrev pub ◌>>=◌ : {A B : Type 0} → Result A FrameFault → (A → Result B FrameFault) → Result B FrameFault
(Ok x) >>= f = f x
(Err e) >>= f = Err e

-- what was read from the front, and the bytes behind it
abbrev pub Read : Type 0 → Type 0
Read A = Result (A × List ℕ) FrameFault

-- ---- what a call answers is what is read

-- a value, seen by view, of which nothing is left to be read behind it
abbrev pub Says : {X Y : Type 0} → (X → Y) → Result X FrameFault → Result Y FrameFault → Type 0
Says view (Ok x) read = read ≡ Ok (view x)
Says view (Err e) read = read ≡ Err e

-- a field, with the bytes behind it
abbrev pub Reads : {X Y : Type 0} → (X → Y) → Result X FrameFault → List ℕ → Read Y → Type 0
Reads view (Ok x) rest read = read ≡ Ok (view x, rest)
Reads view (Err e) rest read = read ≡ Err e

-- or that memory was refused
abbrev pub Fails : {Y : Type 0} → FrameFault → Result Y FrameFault → Type 0
Fails Short read = read ≡ Err Short
Fails Magic read = read ≡ Err Magic
Fails Version read = read ≡ Err Version
Fails Field read = read ≡ Err Field
Fails Order read = read ≡ Err Order
Fails Damaged read = read ≡ Err Damaged
Fails Trailing read = read ≡ Err Trailing
Fails Memory read = Unit {0}

abbrev pub Gives : {X Y : Type 0} → (X → Y) → Result X FrameFault → Result Y FrameFault → Type 0
Gives view (Ok x) read = read ≡ Ok (view x)
Gives view (Err e) read = Fails e read

abbrev pub Fetches : {X Y : Type 0} → (X → Y) → Result X FrameFault → List ℕ → Read Y → Type 0
Fetches view (Ok x) rest read = read ≡ Ok (view x, rest)
Fetches view (Err e) rest read = Fails e read

-- ---- fields

-- so many bytes
unfoldable pub part_at : ℕ → List ℕ → Read (List ℕ)
part_at n bytes = if nat_lt (length bytes) n then Err Field else Ok (take n bytes, drop n bytes)

unfoldable pub byte_at : List ℕ → Read ℕ
byte_at [] = Err Field
byte_at (b ∷ bytes) = Ok (b, bytes)

unfoldable pub four_at : List ℕ → Read ℕ
four_at bytes = do
  part ← part_at 4 bytes
  Ok (from_be_bytes w32 part.0, part.1)

unfoldable pub eight_at : List ℕ → Read ℕ
eight_at bytes = do
  part ← part_at 8 bytes
  Ok (from_be_bytes w64 part.0, part.1)

abbrev pub moment : ℕ → ℕ → Moment
moment time site = record { time = time; site = site }

unfoldable pub stamp_at : ℕ → List ℕ → Read Moment
stamp_at n bytes = do
  time ← eight_at bytes
  site ← byte_at time.1
  if stamp_fits n (moment time.0 site.0) then Ok (moment time.0 site.0, site.1) else Err Field

-- none where both numbers are 0
unfoldable pub floor_at : ℕ → List ℕ → Read (Option Moment)
floor_at n bytes = do
  time ← eight_at bytes
  site ← byte_at time.1
  if (time.0 == 0) && (site.0 == 0) then Ok (None, site.1)
      else (if stamp_fits n (moment time.0 site.0) then Ok (Some (moment time.0 site.0), site.1) else Err Field)

unfoldable pub time_at : List ℕ → Read ℕ
time_at bytes = do
  time ← eight_at bytes
  if nat_le time.0 last_time then Ok time else Err Field

-- so many entries
unfoldable pub vector_at : ℕ → List ℕ → Read (List ℕ)
vector_at zero bytes = Ok ([], bytes)
vector_at (suc n) bytes = do
  first ← time_at bytes
  others ← vector_at n first.1
  Ok (first.0 ∷ others.0, others.1)

-- from which site to which, and of how many
unfoldable pub sites_at : List ℕ → Read Route
sites_at bytes = do
  from ← byte_at bytes
  to ← byte_at from.1
  n ← byte_at to.1
  if sites_fit from.0 to.0 n.0 then Ok (record { from = from.0; to = to.0; sites = n.0 }, n.1) else Err Field

-- ---- records

unfoldable pub size_at : List ℕ → Read ℕ
size_at bytes = do
  size ← four_at bytes
  if nat_le size.0 longest_value then Ok size else Err Field

unfoldable pub gone_at : ℕ → List ℕ → Read (Register Body)
gone_at n bytes = do
  stamp ← stamp_at n bytes
  Ok (Some (stamp.0, Gone), stamp.1)

unfoldable pub value_at : ℕ → List ℕ → Read (Register Body)
value_at n bytes = do
  stamp ← stamp_at n bytes
  digest ← part_at 32 stamp.1
  flags ← four_at digest.1
  size ← size_at flags.1
  Ok (Some (stamp.0, Value digest.0 flags.0 size.0), size.1)

unfoldable pub tagged_body : ℕ → ℕ → List ℕ → Read (Register Body)
tagged_body n tag bytes = if tag == 0 then Ok (None, bytes)
    else (if tag == 1 then gone_at n bytes else (if tag == 2 then value_at n bytes else Err Field))

unfoldable pub body_at : ℕ → List ℕ → Read (Register Body)
body_at n bytes = do
  tag ← byte_at bytes
  tagged_body n tag.0 tag.1

unfoldable pub expiry_at : ℕ → List ℕ → Read (Register ℕ)
expiry_at n bytes = do
  stamp ← stamp_at n bytes
  expiry ← eight_at stamp.1
  Ok (Some (stamp.0, expiry.0), expiry.1)

unfoldable pub tagged_expiry : ℕ → ℕ → List ℕ → Read (Register ℕ)
tagged_expiry n tag bytes = if tag == 0 then Ok (None, bytes) else (if tag == 1 then expiry_at n bytes else Err Field)

unfoldable pub latest_at : ℕ → List ℕ → Read (Register ℕ)
latest_at n bytes = do
  tag ← byte_at bytes
  tagged_expiry n tag.0 tag.1

abbrev pub rec_with : Register Body → Register ℕ → Rec
rec_with body expiry = record { left = record { register = body }; right = record { register = expiry } }

-- at least one register
unfoldable pub rec_at : ℕ → List ℕ → Read Rec
rec_at n bytes = do
  body ← body_at n bytes
  expiry ← latest_at n body.1
  if has_register (body.0, expiry.0) then Ok (rec_with body.0 expiry.0, expiry.1) else Err Field

-- a key that is greater than the one before it; all keys are greater than no bytes
unfoldable pub key_at : List ℕ → List ℕ → Read (List ℕ)
key_at before bytes = do
  size ← byte_at bytes
  key ← part_at size.0 size.1
  if is_key key.0 then (if is_lt (slice_cmp nat_cmp before key.0) then Ok key else Err Order) else Err Field

unfoldable pub record_at : ℕ → List ℕ → List ℕ → Read (List ℕ × Rec)
record_at n before bytes = do
  key ← key_at before bytes
  rec ← rec_at n key.1
  Ok ((key.0, rec.0), rec.1)

-- the last key, no bytes where there is none
abbrev pub last_key : List (List ℕ × Rec) → List ℕ
last_key [] = []
last_key (e ∷ []) = e.0
last_key (e ∷ f ∷ es) = last_key (f ∷ es)

-- so many records behind a key; before the first stands none, which all keys are greater than
unfoldable pub records_at : ℕ → ℕ → List ℕ → List ℕ → Read (List (List ℕ × Rec))
records_at n zero before bytes = Ok ([], bytes)
records_at n (suc count) before bytes = do
  first ← record_at n before bytes
  others ← records_at n count first.0.0 first.1
  Ok (first.0 ∷ others.0, others.1)

-- the number of records, the records, and nothing more
unfoldable pub all_records : ℕ → List ℕ → Result (List (List ℕ × Rec)) FrameFault
all_records n bytes = do
  count ← four_at bytes
  records ← records_at n count.0 [] count.1
  if length records.1 == 0 then Ok records.0 else Err Field

-- ---- parcels

-- a set of so many sites, each a bit: none is set for a site past them
unfoldable pub set_at : ℕ → List ℕ → Read (List Bool)
set_at n bytes = do
  bits ← eight_at bytes
  if nat_lt bits.0 (2 ^ n) then Ok (bits_set 16 bits.0, bits.1) else Err Field

-- the sites that have retired: version 1 has no such field
unfoldable pub retired_at : ℕ → ℕ → List ℕ → Read (List Bool)
retired_at version n bytes = if version == 1 then Ok (no_sites, bytes) else set_at n bytes

unfoldable pub parcel_in : ℕ → List ℕ → Result Parcel FrameFault
parcel_in version bytes = do
  sites ← sites_at bytes
  base ← vector_at sites.0.sites sites.1
  upto ← vector_at sites.0.sites base.1
  retired ← retired_at version sites.0.sites upto.1
  floor ← floor_at sites.0.sites retired.1
  records ← all_records sites.0.sites floor.1
  Ok (record {
    from = sites.0.from;
    to = sites.0.to;
    base = base.0;
    upto = upto.0;
    retired = retired.0;
    floor = floor.0;
    records = records;
  })

-- ---- asks and offers

unfoldable pub wanted_at : List ℕ → Read Wanted
wanted_at bytes = do
  sites ← sites_at bytes
  key ← key_at [] sites.1
  digest ← part_at 32 key.1
  Ok (record { route = sites.0; key = key.0; digest = digest.0 }, digest.1)

-- bytes behind their length
unfoldable pub bytes_at : List ℕ → Read (Option (List ℕ))
bytes_at bytes = do
  size ← size_at bytes
  part ← part_at size.0 size.1
  Ok (Some part.0, part.1)

unfoldable pub tagged_bytes : ℕ → List ℕ → Read (Option (List ℕ))
tagged_bytes tag bytes = if tag == 0 then Ok (None, bytes) else (if tag == 1 then bytes_at bytes else Err Field)

unfoldable pub offered_at : List ℕ → Read (Option (List ℕ))
offered_at bytes = do
  tag ← byte_at bytes
  tagged_bytes tag.0 tag.1

-- and nothing more
unfoldable pub ask_in : List ℕ → Result Wanted FrameFault
ask_in bytes = do
  wanted ← wanted_at bytes
  if length wanted.1 == 0 then Ok wanted.0 else Err Field

unfoldable pub offer_in : List ℕ → Result (Wanted × Option (List ℕ)) FrameFault
offer_in bytes = do
  wanted ← wanted_at bytes
  offered ← offered_at wanted.1
  if length offered.1 == 0 then Ok (wanted.0, offered.0) else Err Field

-- ---- messages

unfoldable pub told_in : ℕ → List ℕ → Result Payload FrameFault
told_in version bytes = do
  parcel ← parcel_in version bytes
  Ok (Tells parcel)

unfoldable pub asked_in : List ℕ → Result Payload FrameFault
asked_in bytes = do
  ask ← ask_in bytes
  Ok (Asks ask)

unfoldable pub offered_in : List ℕ → Result Payload FrameFault
offered_in bytes = do
  offer ← offer_in bytes
  Ok (Offers offer.0 offer.1)

unfoldable pub of_kind : ℕ → List ℕ → Result Payload FrameFault
of_kind kind bytes = if kind == 1 then told_in 2 bytes
    else (if kind == 2 then asked_in bytes else (if kind == 3 then offered_in bytes else Err Field))

-- version 1 has parcels alone, and version 2 begins with the kind
unfoldable pub payload_in : ℕ → List ℕ → Result Payload FrameFault
payload_in version fields = if version == 1 then told_in 1 fields else (do
  kind ← byte_at fields
  of_kind kind.0 kind.1)

-- ---- want of memory

-- the key of the first record: of a parcel memory is asked for nowhere before it is read
unfoldable pub first_key_at : List ℕ → Read (List ℕ)
first_key_at bytes = do
  count ← four_at bytes
  if count.0 == 0 then Err Field else key_at [] count.1

-- behind the sites, the vectors, the retired, the floor and the number of records
unfoldable pub first_key_of : ℕ → List ℕ → Read (List ℕ)
first_key_of version fields = do
  sites ← sites_at fields
  base ← vector_at sites.0.sites sites.1
  upto ← vector_at sites.0.sites base.1
  retired ← retired_at version sites.0.sites upto.1
  floor ← floor_at sites.0.sites retired.1
  first_key_at floor.1

-- of an ask or an offer memory is asked for nowhere before all of it is read
unfoldable pub key_of_ask : List ℕ → Read (List ℕ)
key_of_ask bytes = do
  ask ← ask_in bytes
  Ok (ask.key, [])

unfoldable pub key_of_offer : List ℕ → Read (List ℕ)
key_of_offer bytes = do
  offer ← offer_in bytes
  Ok (offer.0.key, [])

unfoldable pub key_of_kind : ℕ → List ℕ → Read (List ℕ)
key_of_kind kind bytes = if kind == 1 then first_key_of 2 bytes
    else (if kind == 2 then key_of_ask bytes else (if kind == 3 then key_of_offer bytes else Err Field))

unfoldable pub key_in : ℕ → List ℕ → Read (List ℕ)
key_in version fields = if version == 1 then first_key_of 1 fields else (do
  kind ← byte_at fields
  key_of_kind kind.0 kind.1)

-- ---- frames

abbrev pub version_field : List ℕ → ℕ
version_field bytes = slice_index bytes 4

-- what the length field says
abbrev pub length_field : List ℕ → ℕ
length_field bytes = from_be_bytes w32 (take 4 (drop 5 bytes))

abbrev pub is_version : ℕ → Bool
is_version version = (version == 1) || (version == 2)

-- in version 1 a parcel between two sites without records, in version 2 an ask for a key of one byte
abbrev pub shortest_frame : ℕ → ℕ
shortest_frame version = if version == 1 then 89 else 79

unfoldable pub size_in : List ℕ → Result ℕ FrameFault
size_in bytes =
    if nat_lt (length bytes) 9 then Err Short
    else (if not (bytes_eq (take 4 bytes) (codes "GCDS")) then Err Magic
    else (if not (is_version (version_field bytes)) then Err Version
    else (if nat_lt (length_field bytes) (shortest_frame (version_field bytes)) || nat_lt longest_frame (length_field bytes) then Err Field
    else Ok (length_field bytes))))

-- the fields, where the frame has its length and its SHA-256
unfoldable pub fields_sized : List ℕ → ℕ → Result (List ℕ) FrameFault
fields_sized bytes size =
    if nat_lt (length bytes) size then Err Short
    else (if nat_lt size (length bytes) then Err Trailing
    else (if bytes_eq (sha256 (take (size - 32) bytes)) (drop (size - 32) bytes) then Ok (drop 9 (take (size - 32) bytes))
    else Err Damaged))

unfoldable pub fields_in : List ℕ → Result (List ℕ) FrameFault
fields_in bytes = do
  size ← size_in bytes
  fields_sized bytes size

unfoldable pub frame_in : List ℕ → Result Payload FrameFault
frame_in bytes = do
  fields ← fields_in bytes
  payload_in (version_field bytes) fields

unfoldable pub first_key_in : List ℕ → Read (List ℕ)
first_key_in bytes = do
  fields ← fields_in bytes
  key_in (version_field bytes) fields

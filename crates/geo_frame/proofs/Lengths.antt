-- How long the parts of a frame are.
use Rattle.std.proofs.Common.{Bool, ◌≡◌, ℕ, ◌+◌, ◌*◌, ◌≤◌, List, [], ◌∷◌, ◌++◌, length, Option, None, Some, refl, ap, ◌∙◌, arith}
use Rattle.std.specs.List.{flat_map}
use Rattle.std.proofs.lemmas.List.{length-append}
use Rattle.std.proofs.lemmas.List.Concat.{flat_map-cons}
use Rattle.sha2.specs.Sha256.{sha256}
use Rattle.sha2.proofs.Facts256.{length-sha256}
use Rattle.geo_delta.specs.declared.parcel.Parcel.{Parcel}
use Rattle.geo_stamp.specs.Stamps.{Moment}
use Rattle.geo_versions.specs.Maps.{Rec}
use Rattle.geo_records.specs.declared.body.Body.TheVariants.{Gone, Value}
use Rattle.geo_frame.specs.Payloads.{Wanted, Payload}
use Rattle.geo_frame.specs.Payloads.Payload.{Tells, Asks, Offers}
use Rattle.geo_frame.specs.Spelling.{four, eight, stamp_bytes, vector_bytes, floor_bytes, body_bytes, expiry_bytes, key_bytes, rec_bytes, record_bytes, records_bytes, sites_bytes, retired_bytes, parcel_bytes, wanted_bytes, offered_bytes, fields_of, head_bytes, content_of, framed, frame_of, old_frame_of}

pub four_length : (n : ℕ) → length (four n) ≡ 4
unfolding four
four_length n = refl

pub eight_length : (n : ℕ) → length (eight n) ≡ 8
unfolding eight
eight_length n = refl

pub stamp_length : (s : Moment) → length (stamp_bytes s) ≡ 9
unfolding stamp_bytes eight
stamp_length s = refl

pub floor_length : (f : Option Moment) → length (floor_bytes f) ≡ 9
unfolding floor_bytes stamp_bytes eight
floor_length None = refl
floor_length (Some s) = refl

pub body_none : length (body_bytes None) ≡ 1
unfolding body_bytes
body_none = refl

pub body_gone : (s : Moment) → length (body_bytes (Some (s, Gone))) ≡ 10
unfolding body_bytes stamp_bytes eight
body_gone s = refl

pub body_value : (s : Moment) (digest : List ℕ) (flags size : ℕ) → length (body_bytes (Some (s, Value digest flags size))) ≡ 18 + length digest
unfolding body_bytes
body_value s digest flags size =
    omega (arith, stamp_length s, four_length flags, four_length size, length-append (stamp_bytes s ++ digest ++ four flags) (four size), length-append (stamp_bytes s ++ digest) (four flags), length-append (stamp_bytes s) digest)

pub expiry_none : length (expiry_bytes None) ≡ 1
unfolding expiry_bytes
expiry_none = refl

pub expiry_some : (s : Moment) (expiry : ℕ) → length (expiry_bytes (Some (s, expiry))) ≡ 18
unfolding expiry_bytes stamp_bytes eight
expiry_some s expiry = refl

pub record_length : (e : List ℕ × Rec) → length (record_bytes e) ≡ 1 + length e.0 + length (body_bytes e.1.left.register) + length (expiry_bytes e.1.right.register)
unfolding record_bytes key_bytes rec_bytes
record_length e =
    omega (arith, length-append (key_bytes e.0) (rec_bytes e.1), length-append (body_bytes e.1.left.register) (expiry_bytes e.1.right.register))

pub vector_length : (v : List ℕ) → length (vector_bytes v) ≡ 8 * length v
unfolding vector_bytes
vector_length [] = refl
vector_length (t ∷ v) = let more : length (flat_map eight v) ≡ 8 * length v = vector_length v in ap length (flat_map-cons eight t v) ∙ omega (arith, length-append (eight t) (flat_map eight v), eight_length t, more)

pub records_length : (rs : List (List ℕ × Rec)) → length (records_bytes rs) ≡ 4 + length (flat_map record_bytes rs)
unfolding records_bytes
records_length rs = omega (arith, length-append (four (length rs)) (flat_map record_bytes rs), four_length (length rs))

retired_old : (set : List Bool) → length (retired_bytes 1 set) ≡ 0
unfolding retired_bytes
retired_old set = refl

retired_new : (set : List Bool) → length (retired_bytes 2 set) ≡ 8
unfolding retired_bytes eight
retired_new set = refl

pub parcel_length : (version : ℕ) (p : Parcel) → length (parcel_bytes version p) ≡ 16 + length (retired_bytes version p.retired) + 8 * (length p.base + length p.upto) + length (flat_map record_bytes p.records)
unfolding parcel_bytes sites_bytes
parcel_length version p =
    omega (
      arith,
      vector_length p.base,
      vector_length p.upto,
      floor_length p.floor,
      records_length p.records,
      length-append (vector_bytes p.base ++ vector_bytes p.upto ++ retired_bytes version p.retired ++ floor_bytes p.floor) (records_bytes p.records),
      length-append (vector_bytes p.base ++ vector_bytes p.upto ++ retired_bytes version p.retired) (floor_bytes p.floor),
      length-append (vector_bytes p.base ++ vector_bytes p.upto) (retired_bytes version p.retired),
      length-append (vector_bytes p.base) (vector_bytes p.upto),
    )

pub wanted_length : (w : Wanted) → length (wanted_bytes w) ≡ 4 + length w.key + length w.digest
unfolding wanted_bytes sites_bytes key_bytes
wanted_length w = omega (arith, length-append w.key w.digest)

pub offered_none : length (offered_bytes None) ≡ 1
unfolding offered_bytes
offered_none = refl

pub offered_some : (bytes : List ℕ) → length (offered_bytes (Some bytes)) ≡ 5 + length bytes
unfolding offered_bytes
offered_some bytes = omega (arith, four_length (length bytes), length-append (four (length bytes)) bytes)

tells_length : (p : Parcel) → length (fields_of (Tells p)) ≡ 1 + length (parcel_bytes 2 p)
unfolding fields_of
tells_length p = omega arith

asks_length : (w : Wanted) → length (fields_of (Asks w)) ≡ 1 + length (wanted_bytes w)
unfolding fields_of
asks_length w = omega arith

offers_length : (w : Wanted) (bytes : Option (List ℕ)) → length (fields_of (Offers w bytes)) ≡ 1 + length (wanted_bytes w) + length (offered_bytes bytes)
unfolding fields_of
offers_length w bytes = omega (arith, length-append (wanted_bytes w) (offered_bytes bytes))

pub head_length : (version n : ℕ) → length (head_bytes version n) ≡ 9
unfolding head_bytes four
head_length version n = refl

pub content_length : (version : ℕ) (fields : List ℕ) → length (content_of version fields) ≡ 9 + length fields
unfolding content_of
content_length version fields = omega (arith, length-append (head_bytes version (41 + length fields)) fields, head_length version (41 + length fields))

pub framed_length : (version : ℕ) (fields : List ℕ) → length (framed version fields) ≡ 41 + length fields
unfolding framed
framed_length version fields = omega (arith, length-append (content_of version fields) (sha256 (content_of version fields)), length-sha256 (content_of version fields), content_length version fields)

pub frame_size : (m : Payload) → length (frame_of m) ≡ 41 + length (fields_of m)
unfolding frame_of
frame_size m = framed_length 2 (fields_of m)

pub frame_length : (p : Parcel) → length (frame_of (Tells p)) ≡ 66 + 8 * (length p.base + length p.upto) + length (flat_map record_bytes p.records)
frame_length p = omega (arith, frame_size (Tells p), tells_length p, parcel_length 2 p, retired_new p.retired)

pub old_frame_length : (p : Parcel) → length (old_frame_of p) ≡ 57 + 8 * (length p.base + length p.upto) + length (flat_map record_bytes p.records)
unfolding old_frame_of
old_frame_length p = omega (arith, framed_length 1 (parcel_bytes 1 p), parcel_length 1 p, retired_old p.retired)

pub ask_frame_length : (w : Wanted) → length (frame_of (Asks w)) ≡ 46 + length w.key + length w.digest
ask_frame_length w = omega (arith, frame_size (Asks w), asks_length w, wanted_length w)

pub offer_frame_length : (w : Wanted) (bytes : Option (List ℕ)) → length (frame_of (Offers w bytes)) ≡ 46 + length w.key + length w.digest + length (offered_bytes bytes)
offer_frame_length w bytes = omega (arith, frame_size (Offers w bytes), offers_length w bytes, wanted_length w)

pub offer_by : (w : Wanted) (bytes : Option (List ℕ)) (ask offered : ℕ) → ask ≡ length (frame_of (Asks w)) → offered ≡ length (offered_bytes bytes) → ask + offered ≡ length (frame_of (Offers w bytes))
offer_by w bytes ask offered e f = omega (arith, offer_frame_length w bytes, ask_frame_length w, e, f)

-- each record has a byte at least
pub records_few : (rs : List (List ℕ × Rec)) → length rs ≤ length (flat_map record_bytes rs)
records_few [] = omega arith
records_few (e ∷ rs) = omega (arith, ap length (flat_map-cons record_bytes e rs), length-append (record_bytes e) (flat_map record_bytes rs), record_length e, records_few rs)

-- the head, the fields and the SHA-256 are the frame
pub written_is : (m : Payload) (size : ℕ) (a b out : List ℕ) → size ≡ length (frame_of m) → a ≡ head_bytes 2 size → b ≡ a ++ fields_of m → out ≡ b ++ sha256 b → out ≡ frame_of m
unfolding frame_of framed content_of
written_is m size a b out n e f g =
    let size-is : size ≡ 41 + length (fields_of m) = n ∙ frame_size m in
    let content : b ≡ head_bytes 2 (41 + length (fields_of m)) ++ fields_of m = f ∙ ap (λ (x : List ℕ). x ++ fields_of m) (e ∙ ap (head_bytes 2) size-is) in
    g ∙ ap (λ (x : List ℕ). x ++ sha256 x) content

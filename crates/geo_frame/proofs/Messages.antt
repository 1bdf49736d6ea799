-- The fields of a message give it, and what fields give has them.
use Rattle.std.proofs.Common.{◌≡◌, ℕ, ◌+◌, ◌^◌, ◌<◌, ◌≤◌, Bool, false, cond, eqb, List, ◌∷◌, ◌++◌, length, Option, Result, Ok, Err, refl, sym, ap, subst, ◌∙◌, append_assoc, arith, inl, inr}
use Rattle.std.proofs.lemmas.Bool.{eqb-true}
use Rattle.geo_delta.specs.Ranges.{InRange}
use Rattle.geo_delta.specs.declared.parcel.Parcel.{Parcel}
use Rattle.geo_stamp.specs.Stamps.{Moment}
use Rattle.geo_stamp.specs.Retired.{no_sites}
use Rattle.geo_versions.specs.Maps.{Rec}
use Rattle.geo_frame.specs.declared.fault.FrameFault.{FrameFault}
use Rattle.geo_frame.specs.declared.fault.FrameFault.TheVariants.{Field}
use Rattle.geo_frame.specs.declared.route.Route.{Route}
use Rattle.geo_frame.specs.Payloads.{Payload, PayloadInRange}
use Rattle.geo_frame.specs.Payloads.Payload.{Tells, Asks, Offers}
use Rattle.geo_frame.specs.Spelling.{sites_bytes, vector_bytes, floor_bytes, records_bytes, retired_bytes, parcel_bytes, fields_of}
use Rattle.geo_frame.specs.Reading.{◌>>=◌, byte_at, sites_at, vector_at, floor_at, all_records, retired_at, parcel_in, ask_in, offer_in, told_in, asked_in, offered_in, of_kind, payload_in}
use Rattle.geo_frame.proofs.Fields.{IsBytes, bind_ok, chosen, ok_is, not_ok, Takes-then, byte_takes, sites_takes, sites_again, vector_takes, vector_again, floor_takes, floor_again, IsRetired, retired_takes, retired_again}
use Rattle.geo_frame.proofs.Records.{all_takes, all_again}
use Rattle.geo_frame.proofs.Within.{sites_most}
use Rattle.geo_frame.proofs.Asks.{ask_takes, ask_again, offer_takes, offer_again}

-- ---- parcels

pub parcel_takes : (version : ℕ) (bytes : List ℕ) (p : Parcel) → IsBytes bytes → parcel_in version bytes ≡ Ok p → InRange p × (bytes ≡ parcel_bytes version p) × (version ≡ 1 → p.retired ≡ no_sites)
unfolding parcel_in parcel_bytes
parcel_takes version bytes p fits e =
    let Records : Type 0 = List (List ℕ × Rec) in
    let made : Route → List ℕ → List ℕ → List Bool → Option Moment → Records → Parcel = λ r base upto retired floor records. record { from = r.from; to = r.to; base = base; upto = upto; retired = retired; floor = floor; records = records } in
    let a = bind_ok (sites_at bytes) (λ sites. vector_at sites.0.sites sites.1 >>= λ base. vector_at sites.0.sites base.1 >>= λ upto. retired_at version sites.0.sites upto.1 >>= λ retired. floor_at sites.0.sites retired.1 >>= λ floor. all_records sites.0.sites floor.1 >>= λ records. Ok (made sites.0 base.0 upto.0 retired.0 floor.0 records)) p e in
    let r = a.0.0 in
    let n = r.sites in
    let b = bind_ok (vector_at n a.0.1) (λ base. vector_at n base.1 >>= λ upto. retired_at version n upto.1 >>= λ retired. floor_at n retired.1 >>= λ floor. all_records n floor.1 >>= λ records. Ok (made r base.0 upto.0 retired.0 floor.0 records)) p a.2 in
    let c = bind_ok (vector_at n b.0.1) (λ upto. retired_at version n upto.1 >>= λ retired. floor_at n retired.1 >>= λ floor. all_records n floor.1 >>= λ records. Ok (made r b.0.0 upto.0 retired.0 floor.0 records)) p b.2 in
    let g = bind_ok (retired_at version n c.0.1) (λ retired. floor_at n retired.1 >>= λ floor. all_records n floor.1 >>= λ records. Ok (made r b.0.0 c.0.0 retired.0 floor.0 records)) p c.2 in
    let d = bind_ok (floor_at n g.0.1) (λ floor. all_records n floor.1 >>= λ records. Ok (made r b.0.0 c.0.0 g.0.0 floor.0 records)) p g.2 in
    let f = bind_ok (all_records n d.0.1) (λ records. Ok (made r b.0.0 c.0.0 g.0.0 d.0.0 records)) p d.2 in
    let t0 = sites_takes bytes r a.0.1 fits a.1 in
    let t1 = vector_takes n a.0.1 b.0.0 b.0.1 t0.0.rest_fits b.1 in
    let t2 = vector_takes n b.0.1 c.0.0 c.0.1 t1.0.rest_fits c.1 in
    let most : n ≤ 16 = sites_most r.from r.to n t0.1 in
    let tr = retired_takes version n c.0.1 g.0.0 g.0.1 most t2.0.rest_fits g.1 in
    let t3 = floor_takes n g.0.1 d.0.0 d.0.1 tr.0.rest_fits d.1 in
    let t4 = all_takes n d.0.1 f.0 t3.0.rest_fits f.1 in
    let x0 = sites_bytes r.from r.to n in
    let x1 = vector_bytes b.0.0 in
    let x2 = vector_bytes c.0.0 in
    let xr = retired_bytes version g.0.0 in
    let x3 = floor_bytes d.0.0 in
    let t01 = Takes-then bytes x0 a.0.1 x1 b.0.1 t0.0 t1.0 in
    let t02 = Takes-then bytes (x0 ++ x1) b.0.1 x2 c.0.1 t01 t2.0 in
    let t0r = Takes-then bytes (x0 ++ x1 ++ x2) c.0.1 xr g.0.1 t02 tr.0 in
    let t03 = Takes-then bytes (x0 ++ x1 ++ x2 ++ xr) g.0.1 x3 d.0.1 t0r t3.0 in
    let text : bytes ≡ x0 ++ x1 ++ x2 ++ xr ++ x3 ++ records_bytes f.0 = t03.parts ∙ ap (λ (y : List ℕ). x0 ++ x1 ++ x2 ++ xr ++ x3 ++ y) t4.0 in
    let whole : bytes ≡ sites_bytes r.from r.to (length b.0.0) ++ x1 ++ x2 ++ xr ++ x3 ++ records_bytes f.0 = text ∙ ap (λ (k : ℕ). sites_bytes r.from r.to k ++ x1 ++ x2 ++ xr ++ x3 ++ records_bytes f.0) (sym t1.1) in
    let q : Parcel = made r b.0.0 c.0.0 g.0.0 d.0.0 f.0 in
    let in_range : InRange q = record {
      sites = rw t1.1 t0.1;
      vectors = t2.1 ∙ sym t1.1;
      base = t1.2;
      upto = t2.2;
      retired = rw t1.1 tr.1.is_set.fits;
      places = tr.1.is_set.places;
      floor = rw t1.1 t3.1;
      records = rw t1.1 t4.1;
      rising = t4.2;
    } in
    subst (λ (p : Parcel). InRange p × (bytes ≡ sites_bytes p.from p.to (length p.base) ++ vector_bytes p.base ++ vector_bytes p.upto ++ retired_bytes version p.retired ++ floor_bytes p.floor ++ records_bytes p.records) × (version ≡ 1 → p.retired ≡ no_sites)) (ok_is q p f.2) (in_range, whole, tr.1.none)

parts : (a b c r d e : List ℕ) → a ++ b ++ c ++ r ++ d ++ e ≡ a ++ (b ++ (c ++ (r ++ (d ++ e))))
parts a b c r d e = append_assoc (a ++ b ++ c ++ r) d e ∙ append_assoc (a ++ b ++ c) r (d ++ e) ∙ append_assoc (a ++ b) c (r ++ (d ++ e)) ∙ append_assoc a b (c ++ (r ++ (d ++ e)))

parts_again : (version : ℕ) (p : Parcel) → InRange p → (version ≡ 1 → p.retired ≡ no_sites) → length p.records < 2 ^ 32
    → parcel_in version (sites_bytes p.from p.to (length p.base) ++ (vector_bytes p.base ++ (vector_bytes p.upto ++ (retired_bytes version p.retired ++ (floor_bytes p.floor ++ records_bytes p.records))))) ≡ Ok p
unfolding parcel_in
parts_again version p h none few =
    let n = length p.base in
    let x4 = records_bytes p.records in
    let x3 = floor_bytes p.floor ++ x4 in
    let xr = retired_bytes version p.retired ++ x3 in
    let set : IsRetired version n p.retired = record { is_set = record { fits = h.retired; places = h.places }; none = none } in
    let x2 = vector_bytes p.upto ++ xr in
    let x1 = vector_bytes p.base ++ x2 in
    let upto : vector_at n x2 ≡ Ok (p.upto, xr) = ap (λ (k : ℕ). vector_at k x2) (sym h.vectors) ∙ vector_again p.upto xr h.upto in
    rw (sites_again p.from p.to n x1 h.sites, vector_again p.base x2 h.base, upto, retired_again version n p.retired x3 set, floor_again n p.floor x4 h.floor, all_again n p.records few h.records h.rising) refl

pub parcel_again : (version : ℕ) (p : Parcel) → InRange p → (version ≡ 1 → p.retired ≡ no_sites) → length p.records < 2 ^ 32 → parcel_in version (parcel_bytes version p) ≡ Ok p
unfolding parcel_bytes
parcel_again version p h none few = ap (parcel_in version) (parts (sites_bytes p.from p.to (length p.base)) (vector_bytes p.base) (vector_bytes p.upto) (retired_bytes version p.retired) (floor_bytes p.floor) (records_bytes p.records)) ∙ parts_again version p h none few

-- ---- messages

-- a parcel whose fields these are
pub record IsTold (version : ℕ) (bytes : List ℕ) (m : Payload) : Type 0 where
  pub parcel : Parcel
  pub told : m ≡ Tells parcel
  pub ranges : InRange parcel
  pub spelled : bytes ≡ parcel_bytes version parcel
  pub none : version ≡ 1 → parcel.retired ≡ no_sites

told_takes : (version : ℕ) (bytes : List ℕ) (m : Payload) → IsBytes bytes → told_in version bytes ≡ Ok m → IsTold version bytes m
unfolding told_in
told_takes version bytes m fits e =
    let a = bind_ok (parcel_in version bytes) (λ parcel. Ok (Tells parcel)) m e in
    let t = parcel_takes version bytes a.0 fits a.1 in
    record { parcel = a.0; told = sym (ok_is (Tells a.0) m a.2); ranges = t.0; spelled = t.1; none = t.2 }

told_again : (version : ℕ) (p : Parcel) → InRange p → (version ≡ 1 → p.retired ≡ no_sites) → length p.records < 2 ^ 32 → told_in version (parcel_bytes version p) ≡ Ok (Tells p)
unfolding told_in
told_again version p h none few = rw (parcel_again version p h none few) refl

abbrev Spells : ℕ → List ℕ → Payload → Type 0
Spells kind bytes m = PayloadInRange m × (kind ∷ bytes ≡ fields_of m)

told_spells : (bytes : List ℕ) (m : Payload) → IsBytes bytes → told_in 2 bytes ≡ Ok m → Spells 1 bytes m
unfolding fields_of
told_spells bytes m fits e =
    let t = told_takes 2 bytes m fits e in
    subst (Spells 1 bytes) (sym t.told) (t.ranges, ap (λ (x : List ℕ). 1 ∷ x) t.spelled)

asked_spells : (bytes : List ℕ) (m : Payload) → IsBytes bytes → asked_in bytes ≡ Ok m → Spells 2 bytes m
unfolding asked_in fields_of
asked_spells bytes m fits e =
    let a = bind_ok (ask_in bytes) (λ ask. Ok (Asks ask)) m e in
    let t = ask_takes bytes a.0 fits a.1 in
    subst (Spells 2 bytes) (ok_is (Asks a.0) m a.2) (t.1, ap (λ (x : List ℕ). 2 ∷ x) t.0)

offered_spells : (bytes : List ℕ) (m : Payload) → IsBytes bytes → offered_in bytes ≡ Ok m → Spells 3 bytes m
unfolding offered_in fields_of
offered_spells bytes m fits e =
    let a = bind_ok (offer_in bytes) (λ offer. Ok (Offers offer.0 offer.1)) m e in
    let t = offer_takes bytes a.0.0 a.0.1 fits a.1 in
    subst (Spells 3 bytes) (ok_is (Offers a.0.0 a.0.1) m a.2) ((t.1, t.2), ap (λ (x : List ℕ). 3 ∷ x) t.0)

kind_spells : (kind : ℕ) (bytes : List ℕ) (m : Payload) → IsBytes bytes → of_kind kind bytes ≡ Ok m → Spells kind bytes m
unfolding of_kind
kind_spells kind bytes m fits e =
    let third : Result Payload FrameFault = cond (eqb kind 3) (offered_in bytes) (Err Field) in
    let second : Result Payload FrameFault = cond (eqb kind 2) (asked_in bytes) third in
    let Goal : ℕ → Type 0 = λ kind. Spells kind bytes m in
    elim (chosen (eqb kind 1) (told_in 2 bytes) second (Ok m) e) [
      | inl c ↦ subst Goal (sym (eqb-true kind 1 c.0)) (told_spells bytes m fits c.1)
      | inr c ↦ elim (chosen (eqb kind 2) (asked_in bytes) third (Ok m) c.1) [
        | inl d ↦ subst Goal (sym (eqb-true kind 2 d.0)) (asked_spells bytes m fits d.1)
        | inr d ↦ elim (chosen (eqb kind 3) (offered_in bytes) (Err Field) (Ok m) d.1) [
          | inl f ↦ subst Goal (sym (eqb-true kind 3 f.0)) (offered_spells bytes m fits f.1)
          | inr f ↦ not_ok Field m f.1
        ]
      ]
    ]

-- what the fields of a version say
pub data Gave (version : ℕ) (fields : List ℕ) (m : Payload) : Type 0 where
  Old : (old : version ≡ 1) (told : IsTold 1 fields m) → Gave version fields m
  New : (new : (version ≡ 1 → ⊥)) (ranges : PayloadInRange m) (spelled : fields ≡ fields_of m) → Gave version fields m

not_one : (version : ℕ) → eqb version 1 ≡ false → version ≡ 1 → ⊥
not_one version h e = grind arith

pub payload_takes : (version : ℕ) (fields : List ℕ) (m : Payload) → IsBytes fields → payload_in version fields ≡ Ok m → Gave version fields m
unfolding payload_in
payload_takes version fields m fits e =
    let new : Result Payload FrameFault = byte_at fields >>= λ kind. of_kind kind.0 kind.1 in
    elim (chosen (eqb version 1) (told_in 1 fields) new (Ok m) e) [
      | inl c ↦ Old (eqb-true version 1 c.0) (told_takes 1 fields m fits c.1)
      | inr c ↦
          let a = bind_ok (byte_at fields) (λ kind. of_kind kind.0 kind.1) m c.1 in
          let t = byte_takes fields a.0.0 a.0.1 fits a.1 in
          let s = kind_spells a.0.0 a.0.1 m t.rest_fits a.2 in
          New (not_one version c.0) s.0 (t.parts ∙ s.1)
    ]

abbrev pub Few : Payload → Type 0
Few (Tells p) = length p.records < 2 ^ 32
Few (Asks w) = Unit {0}
Few (Offers w b) = Unit {0}

pub fields_again : (m : Payload) → PayloadInRange m → Few m → payload_in 2 (fields_of m) ≡ Ok m
unfolding payload_in byte_at of_kind asked_in offered_in fields_of
fields_again (Tells p) h few = told_again 2 p h (λ two. absurd (omega (arith, two))) few
fields_again (Asks w) h few = rw (ask_again w h) refl
fields_again (Offers w b) h few = rw (offer_again w b h.0 h.1) refl

pub old_again : (p : Parcel) → InRange p → p.retired ≡ no_sites → length p.records < 2 ^ 32 → payload_in 1 (parcel_bytes 1 p) ≡ Ok (Tells p)
unfolding payload_in
old_again p h none few = told_again 1 p h (λ _. none) few

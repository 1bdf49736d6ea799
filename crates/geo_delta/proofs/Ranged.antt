-- A parcel whose vector knows what it tells is within the ranges.
use Rattle.std.proofs.Common.{◌≡◌, ℕ, zero, suc, ◌≤◌, Bool, true, false, ◌&&◌, ◌||◌, not, nat_le, List, [], ◌∷◌, length, Option, None, Some, refl, sym, ap, ◌∙◌, arith, inl, inr, slice_get, true≢false}
use Rattle.std.specs.List.{All, list_all}
use Rattle.std.proofs.lemmas.Bool.{cases_lt, leb-true}
use Rattle.std.proofs.lemmas.List.{get_or_past}
use Rattle.std.proofs.lemmas.List.Elements.{All-head, All-tail}
use Rattle.geo_stamp.specs.Stamps.{Moment, most_sites}
use Rattle.geo_stamp.specs.Vectors.{entry_of}
use Rattle.geo_records.specs.Keys.{is_key}
use Rattle.geo_versions.specs.Maps.{Rec, Rising, has_register, is_unknown, listed_at, rec_means}
use Rattle.geo_records.specs.Operations.{Record, Register}
use Rattle.geo_records.specs.declared.body.Body.{Body}
use Rattle.geo_versions.proofs.InOrder.{each_listed}
use Rattle.geo_delta.specs.Changes.{knows_floor, knows_record}
use Rattle.geo_delta.specs.Ranges.{body_fits, content_fits, expiry_fits, floor_fits, is_ranged, rec_fits, record_fits, stamp_fits}

both_of : (a b : Bool) → (a && b) ≡ true → (a ≡ true) × (b ≡ true)
both_of true b e = (refl, e)
both_of false b e = absurd (true≢false (sym e))

both_are : (a b : Bool) → a ≡ true → b ≡ true → (a && b) ≡ true
both_are a b p q = (λ i. p i && q i)

neither : (a b : Bool) → not (a || b) ≡ true → (a ≡ false) × (b ≡ false)
neither false false e = (refl, refl)
neither false true e = absurd (true≢false (sym e))
neither true b e = absurd (true≢false (sym e))

holds : (a : Bool) → not a ≡ false → a ≡ true
holds true e = refl
holds false e = absurd (true≢false e)

stamp_least : (n : ℕ) (s : Moment) → stamp_fits n s ≡ true → 1 ≤ s.time
unfolding stamp_fits
stamp_least n s h = grind arith

stamp_narrow : (n m : ℕ) (s : Moment) → stamp_fits n s ≡ true → s.site ≤ m → stamp_fits m s ≡ true
unfolding stamp_fits
stamp_narrow n m s h le = grind arith

-- a site whose entry isn't 0 is one of the vector's
site_within : (v : List ℕ) (site : ℕ) → 1 ≤ entry_of v site → site ≤ length v
site_within v zero h = omega arith
site_within v (suc j) h = elim (cases_lt j (length v)) [
  | inl lt ↦ omega (arith, lt)
  | inr ge ↦ let z = get_or_past v j 0 ge in absurd (omega (arith, h, z))
]

-- and so is the site of a stamp that the vector knows
known_within : (v : List ℕ) (s : Moment) → stamp_fits most_sites s ≡ true → nat_le s.time (entry_of v s.site) ≡ true → stamp_fits (length v) s ≡ true
known_within v s h known =
    let low = stamp_least most_sites s h in
    let le = leb-true s.time (entry_of v s.site) known in
    stamp_narrow most_sites (length v) s h (site_within v s.site (omega (arith, low, le)))

pub floor_within : (v : List ℕ) (floor : Option Moment) → floor_fits most_sites floor ≡ true → knows_floor v floor ≡ true → floor_fits (length v) floor ≡ true
unfolding floor_fits
floor_within v None h known = refl
floor_within v (Some s) h known = known_within v s h (twice (nat_le s.time (entry_of v s.site)) known)
  where
    twice : (a : Bool) → not (not a) ≡ true → a ≡ true
    twice true e = refl
    twice false e = absurd (true≢false (sym e))

body_within : (v : List ℕ) (r : Register Body) → body_fits most_sites r ≡ true → is_unknown v r ≡ false → body_fits (length v) r ≡ true
unfolding body_fits
body_within v None h known = refl
body_within v (Some (s, body)) h known =
    let p = both_of (stamp_fits most_sites s) (content_fits body) h in
    both_are (stamp_fits (length v) s) (content_fits body) (known_within v s p.0 (holds (nat_le s.time (entry_of v s.site)) known)) p.1

expiry_within : (v : List ℕ) (r : Register ℕ) → expiry_fits most_sites r ≡ true → is_unknown v r ≡ false → expiry_fits (length v) r ≡ true
unfolding expiry_fits
expiry_within v None h known = refl
expiry_within v (Some (s, expiry)) h known =
    let p = both_of (stamp_fits most_sites s) _ h in
    both_are (stamp_fits (length v) s) _ (known_within v s p.0 (holds (nat_le s.time (entry_of v s.site)) known)) p.1

filled_has : (r : Record) → (r ≡ (None, None) → ⊥) → has_register r ≡ true
filled_has (Some b, e) h = refl
filled_has (None, Some e) h = refl
filled_has (None, None) h = absurd (h refl)

record_within : (v : List ℕ) (e : List ℕ × Rec) → is_ranged e ≡ true → knows_record v (rec_means e.1) ≡ true → (rec_means e.1 ≡ (None, None) → ⊥) → record_fits (length v) e ≡ true
unfolding record_fits rec_fits
record_within v e h known filled =
    let key = both_of (is_key e.0) (body_fits most_sites e.1.left.register && expiry_fits most_sites e.1.right.register) h in
    let registers = both_of (body_fits most_sites e.1.left.register) (expiry_fits most_sites e.1.right.register) key.1 in
    let n = neither (is_unknown v e.1.left.register) (is_unknown v e.1.right.register) known in
    both_are (is_key e.0) _ key.0 (both_are (body_fits (length v) e.1.left.register) _ (body_within v e.1.left.register registers.0 n.0)
    (both_are (expiry_fits (length v) e.1.right.register) (has_register (rec_means e.1)) (expiry_within v e.1.right.register registers.1 n.1) (filled_has (rec_means e.1) filled)))

each_within : (v : List ℕ) (es : List (List ℕ × Rec)) → list_all is_ranged es ≡ true → ((j : ℕ) (e : List ℕ × Rec) → slice_get es j ≡ Some e → knows_record v (rec_means e.1) ≡ true)
    → All (λ e. rec_means e.1 ≡ (None, None) → ⊥) es → list_all (record_fits (length v)) es ≡ true
each_within v [] h known filled = refl
each_within v (e ∷ es) h known filled =
    let p = both_of (is_ranged e) (list_all is_ranged es) h in
    both_are (record_fits (length v) e) (list_all (record_fits (length v)) es)
    (record_within v e p.0 (known 0 e refl) (All-head (λ (x : List ℕ × Rec). rec_means x.1 ≡ (None, None) → ⊥) e es filled))
    (each_within v es p.1 (λ j x at. known (suc j) x at) (All-tail (λ (x : List ℕ × Rec). rec_means x.1 ≡ (None, None) → ⊥) e es filled))

pub records_within : (v : List ℕ) (es : List (List ℕ × Rec)) → list_all is_ranged es ≡ true → Rising es → ((q : List ℕ) → knows_record v (listed_at es q) ≡ true)
    → All (λ e. rec_means e.1 ≡ (None, None) → ⊥) es → list_all (record_fits (length v)) es ≡ true
records_within v es h rising known filled = each_within v es h (λ j e at. ap (knows_record v) (each_listed es rising j e at) ∙ known e.0) filled

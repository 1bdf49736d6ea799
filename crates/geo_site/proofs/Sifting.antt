-- What is left of records that come, where what every site knows is left out; and of those that a site keeps.
use Rattle.std.proofs.Common.{◌≡◌, ℕ, ◌+◌, ◌≤◌, Bool, true, false, cond, not, ◌&&◌, ◌||◌, List, [], ◌∷◌, Option, None, Some, is_some, refl, sym, ap, ◌∙◌, arith, nat_le, true≢false, ◌==◌, length}
use Rattle.std.proofs.lemmas.Bool.{eqb-true, leb-true}
use Rattle.std.proofs.lemmas.Bool.Decides.{nat_tests}
use Rattle.std.specs.declared.cmp.Ordering.{Ordering}
use Rattle.std.specs.declared.cmp.Ordering.TheVariants.{Less, Equal, Greater}
use Rattle.std.specs.Ordering.{ordering_then, is_lt, is_gt, nat_cmp}
use Rattle.std.specs.Map.{lookup}
use Rattle.std.proofs.lemmas.List.Sums.{sum_by-cons}
use Rattle.geo_laws.specs.Registers.{newer, by_both, by_order}
use Rattle.geo_maps.specs.Maps.{missing}
use Rattle.geo_stamp.specs.Stamps.{Moment, stamp_cmp}
use Rattle.geo_records.proofs.Above.{lt_gt, newer_none}
use Rattle.geo_records.specs.Bodies.{body_cmp}
use Rattle.geo_records.specs.Keys.{same_key}
use Rattle.geo_records.specs.Operations.{Record, Register, record_joined, version_in}
use Rattle.geo_versions.specs.Maps.{Rec, rec_means, listed_at, has_register, is_unknown, is_old, recent, recent_both, sifted, is_over, remaining}
use Rattle.geo_versions.specs.Records.{rec_recent}
use Rattle.geo_delta.specs.declared.changes.Changes.{Changes}
use Rattle.geo_delta.specs.Changes.{nothing_pending}
use Rattle.geo_delta.specs.Telling.{Tells}
use Rattle.geo_delta.proofs.Told.{tells_on}
use Rattle.geo_site.specs.Entries.{Held, names}
use Rattle.geo_site.specs.Machine.{knows_record, knows_floor, Covers, EndsFrom, Settled}
use Rattle.geo_delta.specs.declared.parcel.Parcel.{Parcel}
use Rattle.geo_stamp.specs.Retired.{set_fits}
use Rattle.geo_site.specs.Sites.{knows_all, is_sound, brings_new}
use Rattle.geo_site.specs.declared.site.Site.{Site}
use Rattle.geo_versions.specs.declared.versions.Versions.{Versions}
use Rattle.geo_versions.specs.Maps.{record_in, HasRoomFor}
use Rattle.geo_maps.specs.Maps.{meaning_or}
use Rattle.std.specs.List.{list_any}
use Rattle.geo_site.proofs.Times.{time_of}

none_some : {V : Type 0} {x : V} → None ≡ Some x → ⊥
none_some h = cc

then_not_less : (o p : Ordering) → is_lt (ordering_then o p) ≡ false → is_lt o ≡ false
then_not_less Less p h = h
then_not_less Equal p h = refl
then_not_less Greater p h = refl

then_not_greater : (o p : Ordering) → ordering_then o p ≡ Less → is_gt o ≡ false
then_not_greater Less p h = refl
then_not_greater Equal p h = refl
then_not_greater Greater p h = cc

still_at_most : (a b h : ℕ) → b ≤ a → nat_le a h ≡ true → nat_le b h ≡ true
still_at_most a b h le e = grind (arith, nat_tests)

module _ {A : Type 0} (C : A → A → Ordering) (h : ℕ) where
  -- the first is the later
  recent_first : (r s : Moment × A) → s.0.time ≤ r.0.time → newer (by_both stamp_cmp C) (Some r) (Some s) ≡ Some r → (t u : Bool) → nat_le r.0.time h ≡ t → nat_le s.0.time h ≡ u
      → recent h (Some r) ≡ newer (by_both stamp_cmp C) (cond t None (Some r)) (cond u None (Some s))
  recent_first r s le is t true p q = ap (λ t. cond t None (Some r)) p ∙ sym (newer_none (by_both stamp_cmp C) (cond t None (Some r)))
  recent_first r s le is true false p q = absurd (true≢false (sym (still_at_most r.0.time s.0.time h le p) ∙ q))
  recent_first r s le is false false p q = ap (λ t. cond t None (Some r)) p ∙ sym is

  -- the second is
  recent_second : (r s : Moment × A) → r.0.time ≤ s.0.time → newer (by_both stamp_cmp C) (Some r) (Some s) ≡ Some s → (t u : Bool) → nat_le r.0.time h ≡ t → nat_le s.0.time h ≡ u
      → recent h (Some s) ≡ newer (by_both stamp_cmp C) (cond t None (Some r)) (cond u None (Some s))
  recent_second r s le is true u p q = ap (λ u. cond u None (Some s)) q
  recent_second r s le is false true p q = absurd (true≢false (sym (still_at_most s.0.time r.0.time h le q) ∙ p))
  recent_second r s le is false false p q = ap (λ u. cond u None (Some s)) q ∙ sym is

  recent_two : (r s : Moment × A) (o : Ordering) → by_both stamp_cmp C r s ≡ o → recent h (Some (by_order o r s)) ≡ newer (by_both stamp_cmp C) (recent h (Some r)) (recent h (Some s))
  recent_two r s Less e =
      recent_second r s (time_of s.0 r.0 (lt_gt s.0 r.0 ∙ then_not_greater (stamp_cmp r.0 s.0) (C r.1 s.1) e)) (ap (λ o. Some (by_order o r s)) e) (nat_le r.0.time h) (nat_le s.0.time h) refl refl
  recent_two r s Equal e =
      recent_first r s (time_of r.0 s.0 (then_not_less (stamp_cmp r.0 s.0) (C r.1 s.1) (ap is_lt e))) (ap (λ o. Some (by_order o r s)) e) (nat_le r.0.time h) (nat_le s.0.time h) refl refl
  recent_two r s Greater e =
      recent_first r s (time_of r.0 s.0 (then_not_less (stamp_cmp r.0 s.0) (C r.1 s.1) (ap is_lt e))) (ap (λ o. Some (by_order o r s)) e) (nat_le r.0.time h) (nat_le s.0.time h) refl refl

  -- of a join what is not old is the join of what is not old
  pub recent_newer : (a b : Register A) → recent h (newer (by_both stamp_cmp C) a b) ≡ newer (by_both stamp_cmp C) (recent h a) (recent h b)
  recent_newer None b = refl
  recent_newer (Some r) None = sym (newer_none (by_both stamp_cmp C) (recent h (Some r)))
  recent_newer (Some r) (Some s) = recent_two r s (by_both stamp_cmp C r s) refl

recent_joined : (h : ℕ) (a b : Record) → recent_both h (record_joined a b) ≡ record_joined (recent_both h a) (recent_both h b)
recent_joined h a b = λ i. (recent_newer body_cmp h a.0 b.0 i, recent_newer nat_cmp h a.1 b.1 i)

no_register : (r : Record) → has_register r ≡ false → r ≡ (None, None)
no_register (None, None) e = refl
no_register (None, Some x) e = absurd (true≢false e)
no_register (Some x, y) e = absurd (true≢false e)

-- what sifted records have at a key
pub listed_sifted : (h : ℕ) (es : List (List ℕ × Rec)) (q : List ℕ) → listed_at (sifted h es) q ≡ recent_both h (listed_at es q)
listed_sifted h [] q = refl
listed_sifted h (e ∷ es) q = by (has_register (rec_means (rec_recent h e.1))) refl (listed_sifted h es q)
  where
    kept : (t : Bool) → listed_at (sifted h es) q ≡ recent_both h (listed_at es q)
        → cond {A = Record} t (record_joined (recent_both h (rec_means e.1)) (listed_at (sifted h es) q)) (listed_at (sifted h es) q) ≡ recent_both h (cond {A = Record} t (record_joined (rec_means e.1) (listed_at es q)) (listed_at es q))
    kept true rest = ap (record_joined (recent_both h (rec_means e.1))) rest ∙ sym (recent_joined h (rec_means e.1) (listed_at es q))
    kept false rest = rest

    left_out : (t : Bool) → has_register (recent_both h (rec_means e.1)) ≡ false → listed_at (sifted h es) q ≡ recent_both h (listed_at es q)
        → listed_at (sifted h es) q ≡ recent_both h (cond {A = Record} t (record_joined (rec_means e.1) (listed_at es q)) (listed_at es q))
    left_out true none rest = rest ∙ sym (recent_joined h (rec_means e.1) (listed_at es q) ∙ ap (λ r. record_joined r (recent_both h (listed_at es q))) (no_register (recent_both h (rec_means e.1)) none))
    left_out false none rest = rest

    by : (b : Bool) → has_register (rec_means (rec_recent h e.1)) ≡ b → listed_at (sifted h es) q ≡ recent_both h (listed_at es q)
        → listed_at (cond b ((e.0, rec_recent h e.1) ∷ sifted h es) (sifted h es)) q ≡ recent_both h (cond {A = Record} (same_key q e.0) (record_joined (rec_means e.1) (listed_at es q)) (listed_at es q))
    by true is rest = kept (same_key q e.0) rest
    by false is rest = left_out (same_key q e.0) is rest

-- none is missing where each has a record
pub none_missing : (v : Versions) (es : List (List ℕ × Rec)) → list_any (λ e. not (has_register (record_in v e.0))) es ≡ false → missing same_key v.records.entries es ≡ 0
none_missing v [] h = refl
none_missing v (e ∷ es) h =
    let b = both (not (has_register (record_in v e.0))) (list_any (λ e. not (has_register (record_in v e.0))) es) h in
    let rest = none_missing v es b.1 in
    let here = there (lookup (same_key e.0) v.records.entries) refl b.0 in
    let is : missing same_key v.records.entries (e ∷ es) ≡ cond {A = ℕ} (not (is_some (lookup (same_key e.0) v.records.entries))) 1 0 + missing same_key v.records.entries es = sum_by-cons (λ (x : List ℕ × Rec). cond (not (is_some (lookup (same_key x.0) v.records.entries))) 1 0) e es in
    let one : ◌≡◌ {A = ℕ} (cond (not (is_some (lookup (same_key e.0) v.records.entries))) 1 0) 0 = ap (λ t. cond {A = ℕ} (not t) 1 0) here in
    omega (arith, rest, is, one)
  where
    both : (a b : Bool) → a || b ≡ false → (a ≡ false) × (b ≡ false)
    both true b h = absurd (true≢false h)
    both false b h = (refl, h)

    there : (o : Option Rec) → lookup (same_key e.0) v.records.entries ≡ o → not (has_register (record_in v e.0)) ≡ false → is_some (lookup (same_key e.0) v.records.entries) ≡ true
    there None is h = absurd (true≢false (ap (λ (o : Option Rec). not (has_register (meaning_or (None, None) rec_means o))) (sym is) ∙ h))
    there (Some r) is h = ap is_some is

-- so a parcel for which there was no room brings a new one
pub brings : (site : Site) (parcel : Parcel) → (HasRoomFor site.versions parcel.records → ⊥) → brings_new site parcel ≡ true
brings site parcel none = by (brings_new site parcel) refl
  where
    by : (t : Bool) → brings_new site parcel ≡ t → brings_new site parcel ≡ true
    by true e = e
    by false e = absurd (none (let m = none_missing site.versions parcel.records e in omega (arith, m)))

-- fewer keys are missing
pub missing_sifted : {V : Type 0} (h : ℕ) (mine : List (List ℕ × V)) (es : List (List ℕ × Rec)) → missing same_key mine (sifted h es) ≤ missing same_key mine es
missing_sifted h mine [] = omega arith
missing_sifted {V} h mine (e ∷ es) = by (has_register (rec_means (rec_recent h e.1))) (missing_sifted h mine es)
  where
    one_more : (t : Bool) (n : ℕ) → n ≤ cond (not t) 1 0 + n
    one_more true n = omega arith
    one_more false n = omega arith

    by : (b : Bool) → missing {V = Rec} same_key mine (sifted h es) ≤ missing {V = Rec} same_key mine es → missing {V = Rec} same_key mine (cond b ((e.0, rec_recent h e.1) ∷ sifted h es) (sifted h es)) ≤ missing {V = Rec} same_key mine (e ∷ es)
    by true le =
        let less : missing {V = Rec} same_key mine ((e.0, rec_recent h e.1) ∷ sifted h es) ≡ cond (not (is_some (lookup (same_key e.0) mine))) 1 0 + missing {V = Rec} same_key mine (sifted h es) = sum_by-cons (λ (x : List ℕ × Rec). cond (not (is_some (lookup (same_key x.0) mine))) 1 0) (e.0, rec_recent h e.1) (sifted h es) in
        let is : missing {V = Rec} same_key mine (e ∷ es) ≡ cond (not (is_some (lookup (same_key e.0) mine))) 1 0 + missing {V = Rec} same_key mine es = sum_by-cons (λ (x : List ℕ × Rec). cond (not (is_some (lookup (same_key x.0) mine))) 1 0) e es in
        omega (arith, le, less, is)
    by false le =
        let more = one_more (is_some (lookup (same_key e.0) mine)) (missing {V = Rec} same_key mine es) in
        let is : missing {V = Rec} same_key mine (e ∷ es) ≡ cond (not (is_some (lookup (same_key e.0) mine))) 1 0 + missing {V = Rec} same_key mine es = sum_by-cons (λ (x : List ℕ × Rec). cond (not (is_some (lookup (same_key x.0) mine))) 1 0) e es in
        omega (arith, le, more, is)

-- what is left is known where all was
known_recent : {A : Type 0} (v : List ℕ) (h : ℕ) (r : Register A) → is_unknown v r ≡ false → is_unknown v (recent h r) ≡ false
known_recent v h r e = by (is_old h r)
  where
    by : (t : Bool) → is_unknown v (cond t None r) ≡ false
    by true = refl
    by false = e

neither : (a b : Bool) → not (a || b) ≡ true → (a ≡ false) × (b ≡ false)
neither true b e = absurd (true≢false (sym e))
neither false true e = absurd (true≢false (sym e))
neither false false e = (refl, refl)

knows_recent : (v : List ℕ) (h : ℕ) (r : Record) → knows_record v r ≡ true → knows_record v (recent_both h r) ≡ true
knows_recent v h r k = let n = neither (is_unknown v r.0) (is_unknown v r.1) k in (λ i. not (known_recent v h r.0 n.0 i || known_recent v h r.1 n.1 i))

both_true : (a b : Bool) → a && b ≡ true → (a ≡ true) × (b ≡ true)
both_true true b e = (refl, e)
both_true false b e = absurd (true≢false (sym e))

pub knows_sifted : (v : List ℕ) (h : ℕ) (es : List (List ℕ × Rec)) → knows_all v es ≡ true → knows_all v (sifted h es) ≡ true
knows_sifted v h [] k = refl
knows_sifted v h (e ∷ es) k =
    let two = both_true (knows_record v (rec_means e.1)) (knows_all v es) k in
    by (has_register (rec_means (rec_recent h e.1))) (knows_recent v h (rec_means e.1) two.0) (knows_sifted v h es two.1)
  where
    by : (b : Bool) → knows_record v (rec_means (rec_recent h e.1)) ≡ true → knows_all v (sifted h es) ≡ true → knows_all v (cond b ((e.0, rec_recent h e.1) ∷ sifted h es) (sifted h es)) ≡ true
    by true one rest = (λ i. one i && rest i)
    by false one rest = rest

-- ---- what a removal leaves
module _ (h : ℕ) (map new : List ℕ → Record) (is : (q : List ℕ) → new q ≡ remaining h (map q)) where
  knows_remaining : (v : List ℕ) (r : Record) → knows_record v r ≡ true → knows_record v (remaining h r) ≡ true
  knows_remaining v r k = by (is_over h r)
    where
      by : (t : Bool) → knows_record v (cond {A = Record} t (None, None) r) ≡ true
      by true = refl
      by false = k

  pub removed_covers : (v : List ℕ) → Covers v map → Covers v new
  removed_covers v covers q = ap (knows_record v) (is q) ∙ knows_remaining v (map q) (covers q)

  pub removed_traced : (changes : Changes) → Tells nothing_pending map changes → Tells nothing_pending new changes
  removed_traced changes = tells_on nothing_pending nothing_pending map new changes (λ q none. (refl, λ v k. ap (knows_record v) (is q) ∙ knows_remaining v (map q) k))

  pub removed_ends : (least : ℕ) → EndsFrom least map → EndsFrom least new
  removed_ends least ends q s e at ne = by (is_over h (map q)) (sym (ap (λ (r : Record). r.1) (is q)) ∙ at)
    where
      by : (t : Bool) → (cond {A = Record} t (None, None) (map q)).1 ≡ Some (s, e) → least ≤ e
      by true p = absurd (none_some p)
      by false p = ends q s e p ne

  -- the versions stay
  version_remaining : (r : Record) → version_in (remaining h r) ≡ version_in r
  version_remaining r = by (is_over h r) refl
    where
      hidden : {V : Type 0} (v : Option V) (b : Bool) → (not (is_some v) && b) ≡ true → v ≡ None
      hidden None b e = refl
      hidden (Some v) b e = absurd (true≢false (sym e))

      by : (t : Bool) → is_over h r ≡ t → version_in (cond {A = Record} t (None, None) r) ≡ version_in r
      by true e = sym (hidden (version_in r) (is_old h r.0 && is_old h r.1) e)
      by false e = refl

  pub removed_named : (held : Held) → Settled map held → Settled new held
  removed_named held named q bytes has = ap (λ v. names v bytes) (ap version_in (is q) ∙ version_remaining (map q)) ∙ named q bytes has

-- a sound parcel has records whose stamps it knows
pub sound_records : (n number : ℕ) (parcel : Parcel) → is_sound n number parcel ≡ true → knows_all parcel.upto parcel.records ≡ true
sound_records n number parcel e =
    (both_true ((nat_le 1 parcel.from && nat_le parcel.from n) && not (parcel.from == number) && (length parcel.base == n) && (length parcel.upto == n) && set_fits n parcel.retired && knows_floor parcel.upto parcel.floor) (knows_all parcel.upto parcel.records) e).1

-- and comes from one of as many sites, of whose clocks its vector tells, and of which it holds some for retired
pub sound_from : (n number : ℕ) (parcel : Parcel) → is_sound n number parcel ≡ true
    → (1 ≤ parcel.from) × (parcel.from ≤ n) × (length parcel.upto ≡ n) × (set_fits n parcel.retired ≡ true)
sound_from n number parcel e =
    let range = nat_le 1 parcel.from && nat_le parcel.from n in
    let other = range && not (parcel.from == number) in
    let base = other && (length parcel.base == n) in
    let upto = base && (length parcel.upto == n) in
    let set = upto && set_fits n parcel.retired in
    let a = both_true (set && knows_floor parcel.upto parcel.floor) (knows_all parcel.upto parcel.records) e in
    let b = both_true set (knows_floor parcel.upto parcel.floor) a.0 in
    let r = both_true upto (set_fits n parcel.retired) b.0 in
    let c = both_true base (length parcel.upto == n) r.0 in
    let d = both_true other (length parcel.base == n) c.0 in
    let f = both_true range (not (parcel.from == number)) d.0 in
    let g = both_true (nat_le 1 parcel.from) (nat_le parcel.from n) f.0 in
    (leb-true 1 parcel.from g.0, leb-true parcel.from n g.1, eqb-true (length parcel.upto) n c.1, r.1)

-- A write after all that is known wins, and all that is kept stays known.
use Rattle.std.proofs.Common.{◌≡◌, ℕ, ◌≤◌, ◌<◌, Bool, true, false, cond, not, ◌||◌, ◌&&◌, ◌==◌, nat_le, List, [], ◌∷◌, length, Option, None, Some, refl, sym, ap, ◌∙◌, inl, inr, arith, true≢false}
use Rattle.std.proofs.lemmas.Bool.Decides.{nat_tests, eqb_tells}
use Rattle.std.specs.Str.{bytes_eq}
use Rattle.std.specs.declared.cmp.Ordering.{Ordering}
use Rattle.std.specs.declared.cmp.Ordering.TheVariants.{Less, Equal, Greater}
use Rattle.std.specs.Ordering.{ordering_then, is_lt, nat_cmp}
use Rattle.sha2.specs.Sha256.{sha256}
use Rattle.geo_laws.specs.Registers.{newer, by_both, by_order}
use Rattle.geo_stamp.specs.Stamps.{Moment, stamp_cmp}
use Rattle.geo_stamp.specs.Vectors.{entry_of, greatest_of}
use Rattle.geo_records.specs.Bodies.{body_cmp}
use Rattle.geo_records.specs.Operations.{Register, Record, above, above_both, is_above, record_joined, body_joined, expiry_joined, floor_joined, version_in}
use Rattle.geo_versions.specs.Maps.{is_unknown}
use Rattle.geo_records.specs.declared.body.Body.{Body}
use Rattle.geo_records.specs.declared.body.Body.TheVariants.{Value}
use Rattle.geo_site.specs.Entries.{names}
use Rattle.geo_site.specs.Machine.{knows_record, knows_floor}
use Rattle.geo_site.proofs.Entries.{entry_at_most}
use Rattle.geo_site.proofs.Times.{earlier}

-- a list of bytes is itself
pub same_bytes : (xs : List ℕ) → bytes_eq xs xs ≡ true
same_bytes [] = refl
same_bytes (x ∷ xs) = elim (eqb_tells x x) [ inl p ↦ (λ i. p.0 i && same_bytes xs i) | inr p ↦ absurd (p.1 refl) ]

same_number : (n : ℕ) → (n == n) ≡ true
same_number n = elim (eqb_tells n n) [ inl p ↦ p.0 | inr p ↦ absurd (p.1 refl) ]

from_not : (a b : Bool) → not (a || b) ≡ true → (a ≡ false) × (b ≡ false)
from_not true b h = absurd (true≢false (sym h))
from_not false true h = absurd (true≢false (sym h))
from_not false false h = (refl, refl)

to_not : (a b : Bool) → a ≡ false → b ≡ false → not (a || b) ≡ true
to_not true b p q = absurd (true≢false p)
to_not false true p q = absurd (true≢false q)
to_not false false p q = refl

known_time : {A : Type 0} (v : List ℕ) (x : Moment × A) → is_unknown v (Some x) ≡ false → x.0.time ≤ entry_of v x.0.site
known_time v x h = by (nat_le x.0.time (entry_of v x.0.site)) refl h
  where
    by : (t : Bool) → nat_le x.0.time (entry_of v x.0.site) ≡ t → not t ≡ false → x.0.time ≤ entry_of v x.0.site
    by true e h = grind (arith, nat_tests)
    by false e h = absurd (true≢false h)

pub time_known : {A : Type 0} (v : List ℕ) (x : Moment × A) → x.0.time ≤ entry_of v x.0.site → is_unknown v (Some x) ≡ false
time_known v x le = let h : nat_le x.0.time (entry_of v x.0.site) ≡ true = grind (arith, nat_tests) in ap not h

-- a register that is known is no later than the greatest clock
register_at_most : {A : Type 0} (v : List ℕ) (r : Register A) (x : Moment × A) → r ≡ Some x → is_unknown v r ≡ false → x.0.time ≤ greatest_of v
register_at_most v r x e h = let k = known_time v x (ap (is_unknown v) (sym e) ∙ h) in let m = entry_at_most v x.0.site in omega (arith, k, m)

wins : {A : Type 0} (C : A → A → Ordering) (o : Register A) (st : Moment) (b : A) → ((x : Moment × A) → o ≡ Some x → x.0.time < st.time) → newer (by_both stamp_cmp C) o (Some (st, b)) ≡ Some (st, b)
wins C None st b h = refl
wins C (Some x) st b h = ap (λ o. Some (by_order (ordering_then o (C x.1 b)) x (st, b))) (earlier x.0 st (h x refl))

floor_below : (f : Option Moment) (st : Moment) → ((x : Moment) → f ≡ Some x → x.time < st.time) → is_above f st ≡ true
floor_below None st h = refl
floor_below (Some x) st h = ap is_lt (earlier x st (h x refl))

floor_time : (v : List ℕ) (f : Option Moment) (x : Moment) → f ≡ Some x → knows_floor v f ≡ true → x.time ≤ greatest_of v
floor_time v None x e h = cc
floor_time v (Some f) x e h = by (nat_le f.time (entry_of v f.site)) refl h
  where
    same : f ≡ x
    same = cc

    by : (t : Bool) → nat_le f.time (entry_of v f.site) ≡ t → not (not t) ≡ true → x.time ≤ greatest_of v
    by true g h = let k : f.time ≤ entry_of v f.site = grind (arith, nat_tests) in let m = entry_at_most v f.site in let t = ap (λ (m : Moment). m.time) same in omega (arith, k, m, t)
    by false g h = absurd (true≢false (sym h))

-- the record after a write whose time is after the greatest clock
pub write_wins : (v : List ℕ) (f : Option Moment) (r : Record) (st : Moment) (b : Body) (e : ℕ) → knows_floor v f ≡ true → knows_record v r ≡ true → greatest_of v < st.time
    → above_both f (record_joined r (Some (st, b), Some (st, e))) ≡ (Some (st, b), Some (st, e))
write_wins v f r st b e kf kr lt =
    let known = from_not (is_unknown v r.0) (is_unknown v r.1) kr in
    let body = wins body_cmp r.0 st b (λ x is. let m = register_at_most v r.0 x is known.0 in omega (arith, m, lt)) in
    let expiry = wins nat_cmp r.1 st e (λ x is. let m = register_at_most v r.1 x is known.1 in omega (arith, m, lt)) in
    let up = floor_below f st (λ x is. let m = floor_time v f x is kf in omega (arith, m, lt)) in
    (λ i. (above f (body i), above f (expiry i)))
    ∙ (λ i. (cond {A = Register Body} (up i) (Some (st, b)) None, cond {A = Register ℕ} (up i) (Some (st, e)) None))

-- so its bytes are named
pub written_named : (st : Moment) (bytes : List ℕ) (flags e : ℕ) → names (version_in (Some (st, Value (sha256 bytes) flags (length bytes)), Some (st, e))) bytes ≡ true
written_named st bytes flags e = λ i. same_bytes (sha256 bytes) i && same_number (length bytes) i

-- ---- what is kept stays known
module _ {A : Type 0} (C : A → A → Ordering) (v : List ℕ) where
  known_newer : (a b : Register A) → is_unknown v a ≡ false → is_unknown v b ≡ false → is_unknown v (newer (by_both stamp_cmp C) a b) ≡ false
  known_newer None b p q = q
  known_newer (Some a) None p q = p
  known_newer (Some a) (Some b) p q = by (by_both stamp_cmp C a b)
    where
      by : (o : Ordering) → is_unknown v (Some (by_order o a b)) ≡ false
      by Less = q
      by Equal = p
      by Greater = p

known_above : {A : Type 0} (v : List ℕ) (f : Option Moment) (r : Register A) → is_unknown v r ≡ false → is_unknown v (above f r) ≡ false
known_above v f None h = h
known_above v f (Some x) h = by (is_above f x.0)
  where
    by : (t : Bool) → is_unknown v (cond t (Some x) None) ≡ false
    by true = h
    by false = refl

pub knows_joined : (v : List ℕ) (f : Option Moment) (a b : Record) → knows_record v a ≡ true → knows_record v b ≡ true → knows_record v (above_both f (record_joined a b)) ≡ true
knows_joined v f a b p q =
    let x = from_not (is_unknown v a.0) (is_unknown v a.1) p in
    let y = from_not (is_unknown v b.0) (is_unknown v b.1) q in
    to_not (is_unknown v (above f (body_joined a.0 b.0))) (is_unknown v (above f (expiry_joined a.1 b.1)))
    (known_above v f (body_joined a.0 b.0) (known_newer body_cmp v a.0 b.0 x.0 y.0))
    (known_above v f (expiry_joined a.1 b.1) (known_newer nat_cmp v a.1 b.1 x.1 y.1))

pub knows_floors : (v : List ℕ) (f g : Option Moment) → knows_floor v f ≡ true → knows_floor v g ≡ true → knows_floor v (floor_joined f g) ≡ true
knows_floors v None g p q = q
knows_floors v (Some f) None p q = p
knows_floors v (Some f) (Some g) p q = by (stamp_cmp f g)
  where
    by : (o : Ordering) → knows_floor v (Some (by_order o f g)) ≡ true
    by Less = q
    by Equal = p
    by Greater = p

-- a greater vector knows no less
pub AtLeast : List ℕ → List ℕ → Type 0
AtLeast v w = (j : ℕ) → entry_of v j ≤ entry_of w j

register_more : {A : Type 0} (v w : List ℕ) → ((j : ℕ) → entry_of v j ≤ entry_of w j) → (r : Register A) → is_unknown v r ≡ false → is_unknown w r ≡ false
register_more v w up None h = refl
register_more v w up (Some x) h = let k = known_time v x h in let m = up x.0.site in time_known w x (omega (arith, k, m))

pub knows_more : (v w : List ℕ) → ((j : ℕ) → entry_of v j ≤ entry_of w j) → (r : Record) → knows_record v r ≡ true → knows_record w r ≡ true
knows_more v w up r h =
    let x = from_not (is_unknown v r.0) (is_unknown v r.1) h in
    to_not (is_unknown w r.0) (is_unknown w r.1) (register_more v w up r.0 x.0) (register_more v w up r.1 x.1)

pub knows_floor_more : (v w : List ℕ) → ((j : ℕ) → entry_of v j ≤ entry_of w j) → (f : Option Moment) → knows_floor v f ≡ true → knows_floor w f ≡ true
knows_floor_more v w up None h = h
knows_floor_more v w up (Some f) h = by (nat_le f.time (entry_of v f.site)) refl h
  where
    by : (t : Bool) → nat_le f.time (entry_of v f.site) ≡ t → not (not t) ≡ true → knows_floor w (Some f) ≡ true
    by true g h = let k : f.time ≤ entry_of v f.site = grind (arith, nat_tests) in let m = up f.site in let n : nat_le f.time (entry_of w f.site) ≡ true = grind (arith, nat_tests) in ap (λ t. not (not t)) n
    by false g h = absurd (true≢false (sym h))

pub knows_pair : (v : List ℕ) (a b : Record) → knows_record v a ≡ true → knows_record v b ≡ true → knows_record v (record_joined a b) ≡ true
knows_pair v a b p q =
    let x = from_not (is_unknown v a.0) (is_unknown v a.1) p in
    let y = from_not (is_unknown v b.0) (is_unknown v b.1) q in
    to_not (is_unknown v (body_joined a.0 b.0)) (is_unknown v (expiry_joined a.1 b.1)) (known_newer body_cmp v a.0 b.0 x.0 y.0) (known_newer nat_cmp v a.1 b.1 x.1 y.1)

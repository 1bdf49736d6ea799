-- What is above a floor, of registers that are joined: what is dropped below a floor is dropped below a greater one, and what is
-- above the floor of a join is the join of what is above it.
use Rattle.std.proofs.Common.{◌≡◌, Bool, true, false, cond, Option, None, Some, refl, sym, ap, ◌∙◌, true≢false}
use Rattle.std.specs.declared.cmp.Ordering.{Ordering}
use Rattle.std.specs.declared.cmp.Ordering.TheVariants.{Less, Equal, Greater}
use Rattle.std.specs.Ordering.{ordering_then, ordering_reverse, is_lt, is_gt, nat_cmp}
use Rattle.std.proofs.lemmas.Cmp.{nat_cmp_total, upto, tied_itself}
use Rattle.std.proofs.lemmas.Map.Lookups.{exact_pairs, exact_unsigned}
use Rattle.geo_laws.specs.Registers.{newer, by_both, by_order, greater}
use Rattle.geo_laws.proofs.Registers.{newer_comm, newer_assoc, newer_same, both_total}
use Rattle.geo_stamp.specs.Stamps.{Moment, stamp_cmp}
use Rattle.geo_stamp.proofs.Stamps.{stamps_total, exact_stamps}
use Rattle.geo_records.specs.Bodies.{body_cmp}
use Rattle.geo_records.proofs.Bodies.{bodies_total, exact_bodies}
use Rattle.geo_records.specs.Operations.{Register, Record, above, above_both, is_above, floor_joined, record_joined}

lt_back : (o : Ordering) → is_lt (ordering_reverse o) ≡ is_gt o
lt_back Less = refl
lt_back Equal = refl
lt_back Greater = refl

pub lt_gt : (a b : Moment) → is_lt (stamp_cmp a b) ≡ is_gt (stamp_cmp b a)
lt_gt a b = ap is_lt (stamps_total.antisymm a b) ∙ lt_back (stamp_cmp b a)

-- not below, and not below again
not_less : (a b c : Moment) → is_lt (stamp_cmp a b) ≡ false → is_lt (stamp_cmp b c) ≡ false → is_lt (stamp_cmp a c) ≡ false
not_less a b c p q = lt_gt a c ∙ upto stamps_total c b a (sym (lt_gt b c) ∙ q) (sym (lt_gt a b) ∙ p)

-- the greater of two is not below the first
greater_first : (f g : Moment) → is_lt (stamp_cmp (greater stamp_cmp f g) f) ≡ false
greater_first f g = by (stamp_cmp f g) refl
  where
    by : (o : Ordering) → stamp_cmp f g ≡ o → is_lt (stamp_cmp (by_order o f g) f) ≡ false
    by Less e = ap is_lt (stamps_total.antisymm g f) ∙ lt_back (stamp_cmp f g) ∙ ap is_gt e
    by Equal e = ap is_lt (tied_itself stamps_total f)
    by Greater e = ap is_lt (tied_itself stamps_total f)

-- a stamp that is not above a floor is not above a greater one
pub not_above : (f g : Option Moment) (s : Moment) → is_above f s ≡ false → is_above (newer stamp_cmp f g) s ≡ false
not_above None g s h = absurd (true≢false h)
not_above (Some f) None s h = h
not_above (Some f) (Some g) s h = not_less (greater stamp_cmp f g) f s (greater_first f g) h

then_not_less : (o p : Ordering) → is_lt (ordering_then o p) ≡ false → is_lt o ≡ false
then_not_less Less p h = h
then_not_less Equal p h = refl
then_not_less Greater p h = refl

-- nor is a lesser one
pub below_too : (m : Option Moment) (r s : Moment) → is_above m r ≡ false → is_lt (stamp_cmp r s) ≡ false → is_above m s ≡ false
below_too None r s h e = absurd (true≢false h)
below_too (Some m) r s h e = not_less m r s h e

pub newer_none : {A : Type 0} (cmp : A → A → Ordering) (a : Option A) → newer cmp a None ≡ a
newer_none cmp None = refl
newer_none cmp (Some a) = refl

pub joined_none : (r : Record) → record_joined r (None, None) ≡ r
joined_none r = λ i. (newer_none (by_both stamp_cmp body_cmp) r.0 i, newer_none (by_both stamp_cmp nat_cmp) r.1 i)

pub above_twice : {A : Type 0} (f : Option Moment) (r : Register A) → above f (above f r) ≡ above f r
above_twice f None = refl
above_twice f (Some r) = by (is_above f r.0) refl
  where
    by : (t : Bool) → is_above f r.0 ≡ t → above f (cond t (Some r) None) ≡ cond t (Some r) None
    by true e = ap (λ t. cond t (Some r) None) e
    by false e = refl

-- what is above a greater floor is above the lesser
pub above_lower : {A : Type 0} (f g : Option Moment) (r : Register A) → above (floor_joined f g) (above f r) ≡ above (floor_joined f g) r
above_lower f g None = refl
above_lower f g (Some r) = by (is_above f r.0) refl
  where
    by : (t : Bool) → is_above f r.0 ≡ t → above (floor_joined f g) (cond t (Some r) None) ≡ above (floor_joined f g) (Some r)
    by true e = refl
    by false e = sym (ap (λ t. cond t (Some r) None) (not_above f g r.0 e))

then_not_greater : (o p : Ordering) → ordering_then o p ≡ Less → is_gt o ≡ false
then_not_greater Less p h = refl
then_not_greater Equal p h = refl
then_not_greater Greater p h = cc

module _ {A : Type 0} (C : A → A → Ordering) (m : Option Moment) where
  above_two : (r s : Moment × A) (o : Ordering) → by_both stamp_cmp C r s ≡ o → (t u : Bool) → is_above m r.0 ≡ t → is_above m s.0 ≡ u
      → above m (Some (by_order o r s)) ≡ newer (by_both stamp_cmp C) (cond t (Some r) None) (cond u (Some s) None)
  above_two r s Less e true true p q = ap (λ u. cond u (Some s) None) q ∙ ap (λ o. Some (by_order o r s)) (sym e)
  above_two r s Less e true false p q =
      absurd (true≢false (sym p ∙ below_too m s.0 r.0 q (lt_gt s.0 r.0 ∙ then_not_greater (stamp_cmp r.0 s.0) (C r.1 s.1) e)))
  above_two r s Less e false u p q = ap (λ u. cond u (Some s) None) q
  above_two r s Equal e true true p q = ap (λ t. cond t (Some r) None) p ∙ ap (λ o. Some (by_order o r s)) (sym e)
  above_two r s Equal e false true p q =
      absurd (true≢false (sym q ∙ below_too m r.0 s.0 p (then_not_less (stamp_cmp r.0 s.0) (C r.1 s.1) (ap is_lt e))))
  above_two r s Equal e t false p q = ap (λ t. cond t (Some r) None) p ∙ sym (newer_none (by_both stamp_cmp C) (cond t (Some r) None))
  above_two r s Greater e true true p q = ap (λ t. cond t (Some r) None) p ∙ ap (λ o. Some (by_order o r s)) (sym e)
  above_two r s Greater e false true p q =
      absurd (true≢false (sym q ∙ below_too m r.0 s.0 p (then_not_less (stamp_cmp r.0 s.0) (C r.1 s.1) (ap is_lt e))))
  above_two r s Greater e t false p q = ap (λ t. cond t (Some r) None) p ∙ sym (newer_none (by_both stamp_cmp C) (cond t (Some r) None))

  -- what is above the floor of a join is the join of what is above it
  pub above_newer : (a b : Register A) → above m (newer (by_both stamp_cmp C) a b) ≡ newer (by_both stamp_cmp C) (above m a) (above m b)
  above_newer None b = refl
  above_newer (Some r) None = sym (newer_none (by_both stamp_cmp C) (above m (Some r)))
  above_newer (Some r) (Some s) = above_two r s (by_both stamp_cmp C r s) refl (is_above m r.0) (is_above m s.0) refl refl

pub above_both_joined : (m : Option Moment) (a b : Record)
    → above_both m (record_joined a b) ≡ record_joined (above_both m a) (above_both m b)
above_both_joined m a b = λ i. (above_newer body_cmp m a.0 b.0 i, above_newer nat_cmp m a.1 b.1 i)

pub above_both_twice : (m : Option Moment) (r : Record) → above_both m (above_both m r) ≡ above_both m r
above_both_twice m r = λ i. (above_twice m r.0 i, above_twice m r.1 i)

pub above_both_lower : (f g : Option Moment) (r : Record) → above_both (floor_joined f g) (above_both f r) ≡ above_both (floor_joined f g) r
above_both_lower f g r = λ i. (above_lower f g r.0 i, above_lower f g r.1 i)

pub above_both_higher : (f g : Option Moment) (r : Record)
    → above_both (floor_joined f g) (above_both g r) ≡ above_both (floor_joined f g) r
above_both_higher f g r =
    let flip = newer_comm stamp_cmp stamps_total exact_stamps f g in
    ap (λ m. above_both m (above_both g r)) flip ∙ above_both_lower g f r ∙ ap (λ m. above_both m r) (sym flip)

-- of two records above the floor the join is
pub joined_above : (m : Option Moment) (a b : Record) → above_both m a ≡ a → above_both m b ≡ b
    → above_both m (record_joined a b) ≡ record_joined a b
joined_above m a b p q = above_both_joined m a b ∙ (λ i. record_joined (p i) (q i))

pub record_comm : (a b : Record) → record_joined a b ≡ record_joined b a
record_comm a b =
    let B = newer_comm (by_both stamp_cmp body_cmp) (both_total stamps_total bodies_total)
    (exact_pairs stamp_cmp body_cmp exact_stamps exact_bodies) in
    let X = newer_comm (by_both stamp_cmp nat_cmp) (both_total stamps_total nat_cmp_total)
    (exact_pairs stamp_cmp nat_cmp exact_stamps exact_unsigned) in
    λ i. (B a.0 b.0 i, X a.1 b.1 i)

pub record_assoc : (a b c : Record) → record_joined a (record_joined b c) ≡ record_joined (record_joined a b) c
record_assoc a b c =
    let B = newer_assoc (by_both stamp_cmp body_cmp) (both_total stamps_total bodies_total)
    (exact_pairs stamp_cmp body_cmp exact_stamps exact_bodies) in
    let X = newer_assoc (by_both stamp_cmp nat_cmp) (both_total stamps_total nat_cmp_total)
    (exact_pairs stamp_cmp nat_cmp exact_stamps exact_unsigned) in
    λ i. (B a.0 b.0 c.0 i, X a.1 b.1 c.1 i)

pub record_same : (a : Record) → record_joined a a ≡ a
record_same a =
    let B = newer_same (by_both stamp_cmp body_cmp) (both_total stamps_total bodies_total)
    (exact_pairs stamp_cmp body_cmp exact_stamps exact_bodies) in
    let X = newer_same (by_both stamp_cmp nat_cmp) (both_total stamps_total nat_cmp_total)
    (exact_pairs stamp_cmp nat_cmp exact_stamps exact_unsigned) in
    λ i. (B a.0 i, X a.1 i)

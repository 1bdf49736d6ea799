-- One register of one key, as states and deltas join.
use Rattle.std.proofs.Common.{◌≡◌, ◌≢◌, ℕ, ◌+◌, ◌≤◌, ◌<◌, max, Bool, true, false, cond, List, [], ◌∷◌, ◌++◌, Option, None, Some, refl, sym, ap, ◌∙◌, subst, subst₂, ◌⊎◌, inl, inr, arith, nat_le, nat_lt, true≢false}
use Rattle.std.proofs.lemmas.Bool.Decides.{nat_tests}
use Rattle.std.specs.declared.cmp.Ordering.{Ordering}
use Rattle.std.specs.declared.cmp.Ordering.TheVariants.{Less, Equal, Greater}
use Rattle.std.specs.Ordering.{ordering_then, nat_cmp}
use Rattle.std.specs.Cmp.{IsTotalOrder}
use Rattle.std.proofs.lemmas.Map.Lookups.{exact_pairs, CmpEqualImpliesEq}
use Rattle.geo_laws.specs.Registers.{newer, by_both, by_order}
use Rattle.geo_laws.proofs.Registers.{newer_assoc, newer_comm, both_total}
use Rattle.geo_stamp.specs.Stamps.{Moment, stamp_cmp}
use Rattle.geo_stamp.proofs.Stamps.{stamps_total, exact_stamps}
use Rattle.geo_records.specs.Operations.{Operation, Register, newest, above, is_above, floor_joined, Among}
use Rattle.geo_records.proofs.Above.{above_newer, above_lower, not_above}
use Rattle.geo_site.proofs.Times.{earlier}
use Rattle.geo_world.specs.Holding.{Old, Kept}

abbrev pub Later : {A : Type 0} → ℕ → Register A → Type 0
Later h None = ⊥
Later h (Some x) = h < x.0.time

some_none : {V : Type 0} {x : V} → Some x ≡ None → ⊥
some_none h = cc

-- an old register above a floor is old, or gone
pub old_kept : {A : Type 0} (P : ℕ → Type 0) (f : Option Moment) (q : Register A) → Old P q → Kept P None (above f q)
old_kept P f None h = absurd h
old_kept P f (Some y) h = by (is_above f y.0)
  where
    by : (t : Bool) → Kept P None (cond t (Some y) None)
    by true = inr (refl, h)
    by false = inl refl

module _ {A : Type 0} (C : A → A → Ordering) (total : IsTotalOrder C) (exact : CmpEqualImpliesEq C) where
  -- what is dropped below each floor is dropped below the greater one
  above_joined : (f g : Option Moment) (a b : Register A) → above (floor_joined f g) (newer (by_both stamp_cmp C) (above f a) (above g b)) ≡ above (floor_joined f g) (newer (by_both stamp_cmp C) a b)
  above_joined f g a b =
      let flip = newer_comm stamp_cmp stamps_total exact_stamps f g in
      let right = ap (λ m. above m (above g b)) flip ∙ above_lower g f b ∙ ap (λ m. above m b) (sym flip) in
      above_newer C (floor_joined f g) (above f a) (above g b)
      ∙ (λ i. newer (by_both stamp_cmp C) (above_lower f g a i) (right i))
      ∙ sym (above_newer C (floor_joined f g) a b)

  -- a register that is not above the floor adds nothing
  drop_first : (m : Option Moment) (r : Moment × A) (b : Register A) → is_above m r.0 ≡ false → above m (newer (by_both stamp_cmp C) (Some r) b) ≡ above m b
  drop_first m r b h = above_newer C m (Some r) b ∙ ap (λ t. newer (by_both stamp_cmp C) (cond t (Some r) None) (above m b)) h

  abbrev pub joined : Register A → Register A → Register A
  joined = newer (by_both stamp_cmp C)

  pub older : (q x : Register A) (P : ℕ → Type 0) (h : ℕ) → ((t : ℕ) → P t → t ≤ h) → Old P q → Later h x → newer (by_both stamp_cmp C) q x ≡ x
  older None x P h low o l = absurd o
  older (Some a) None P h low o l = absurd l
  older (Some a) (Some b) P h low o l =
      let le = low a.0.time o in
      let lt : a.0.time < b.0.time = omega arith in
      ap (λ o. Some (by_order (ordering_then o (C a.1 b.1)) a b)) (earlier a.0 b.0 lt)

  -- the operations that are missing from a parcel are known
  abbrev pub Missing : Register A → Register A → Type 0
  Missing raw r = (y : Moment × A) → r ≡ Some y → newer (by_both stamp_cmp C) (Some y) raw ≡ raw

  -- what comes in is later than the horizon, or missing
  abbrev pub Incoming : ℕ → Register A → Register A → Register A → Type 0
  Incoming h raw r x = ((x ≡ r) × Later h x) ⊎ ((x ≡ None) × Missing raw r)

  pub missing_absorbed : (fa fp : Option Moment) (raw rawp : Register A) → Missing raw (above fp rawp) → above (floor_joined fa fp) (newer (by_both stamp_cmp C) raw rawp) ≡ above (floor_joined fa fp) raw
  missing_absorbed fa fp raw rawp miss =
      let R = by_both stamp_cmp C in
      let T = both_total stamps_total total in
      let E = exact_pairs stamp_cmp C exact_stamps exact in
      ap (above (floor_joined fa fp)) (newer_comm R T E raw rawp) ∙ by rawp miss
    where
      by : (rawp : Register A) → Missing raw (above fp rawp) → above (floor_joined fa fp) (newer (by_both stamp_cmp C) rawp raw) ≡ above (floor_joined fa fp) raw
      by None miss = refl
      by (Some y) miss = two (is_above fp y.0) refl miss
        where
          two : (t : Bool) → is_above fp y.0 ≡ t → Missing raw (cond t (Some y) None) → above (floor_joined fa fp) (newer (by_both stamp_cmp C) (Some y) raw) ≡ above (floor_joined fa fp) raw
          two true e miss = ap (above (floor_joined fa fp)) (miss y refl)
          two false e miss = drop_first (floor_joined fa fp) y raw (ap (λ x. is_above x y.0) (newer_comm stamp_cmp stamps_total exact_stamps fa fp) ∙ not_above fp fa y.0 e)

  module _ (fa fp : Option Moment) (P : ℕ → Type 0) (h : ℕ) (low : (t : ℕ) → P t → t ≤ h) (m raw rawp x : Register A) where
    -- what comes in later than the horizon leaves what the operations leave
    pub join_later : Kept P m (above fa raw) → x ≡ above fp rawp → Later h x → above (floor_joined fa fp) (newer (by_both stamp_cmp C) m x) ≡ above (floor_joined fa fp) (newer (by_both stamp_cmp C) raw rawp)
    join_later (inl e) is late = (λ i. above (floor_joined fa fp) (newer (by_both stamp_cmp C) (e i) (is i))) ∙ above_joined fa fp raw rawp
    join_later (inr e) is late =
        ap (λ m. above (floor_joined fa fp) (newer (by_both stamp_cmp C) m x)) e.0
        ∙ ap (above (floor_joined fa fp)) (sym (older (above fa raw) x P h low e.1 late))
        ∙ ap (λ x. above (floor_joined fa fp) (newer (by_both stamp_cmp C) (above fa raw) x)) is
        ∙ above_joined fa fp raw rawp

    -- what is whole stays whole
    pub join_whole : m ≡ above fa raw → Incoming h raw (above fp rawp) x → above (floor_joined fa fp) (newer (by_both stamp_cmp C) m x) ≡ above (floor_joined fa fp) (newer (by_both stamp_cmp C) raw rawp)
    join_whole e (inl i) = join_later (inl e) i.0 i.1
    join_whole e (inr i) =
        (λ j. above (floor_joined fa fp) (newer (by_both stamp_cmp C) (e j) (i.0 j)))
        ∙ ap (above (floor_joined fa fp)) (newer_comm (by_both stamp_cmp C) (both_total stamps_total total) (exact_pairs stamp_cmp C exact_stamps exact) (above fa raw) None)
        ∙ above_lower fa fp raw
        ∙ sym (missing_absorbed fa fp raw rawp i.1)

    pub join_kept : Kept P m (above fa raw) → Incoming h raw (above fp rawp) x → Kept P (above (floor_joined fa fp) (newer (by_both stamp_cmp C) m x)) (above (floor_joined fa fp) (newer (by_both stamp_cmp C) raw rawp))
    join_kept k (inl i) = inl (join_later k i.0 i.1)
    join_kept (inl e) (inr i) = inl (join_whole e (inr i))
    join_kept (inr e) (inr i) =
        let P2 : Register A → Register A → Type 0 = λ a b. Kept P a b in
        subst₂ P2
        (sym (λ j. above (floor_joined fa fp) (newer (by_both stamp_cmp C) (e.0 j) (i.0 j))))
        (above_lower fa fp raw ∙ sym (missing_absorbed fa fp raw rawp i.1))
        (old_kept P (floor_joined fa fp) (above fa raw) e.1)

  -- what is missing stays so as more is known
  pub missing_more : (raw more r : Register A) → Missing raw r → Missing (newer (by_both stamp_cmp C) raw more) r
  missing_more raw more r miss y is =
      newer_assoc (by_both stamp_cmp C) (both_total stamps_total total) (exact_pairs stamp_cmp C exact_stamps exact) (Some y) raw more
      ∙ ap (λ x. newer (by_both stamp_cmp C) x more) (miss y is)

-- the greatest is of one of the operations
pub found : {B : Type 0} (cmp : B → B → Ordering) (f : Operation → Option B) (ops : List Operation) (x : B) → newest cmp f ops ≡ Some x → (op : Operation) × Among ops op × (f op ≡ Some x)
found cmp f [] x h = absurd (some_none (sym h))
found {B} cmp f (k ∷ ks) x h = by (f k) (newest cmp f ks) refl refl h (found cmp f ks x)
  where
    by : (a b : Option B) → f k ≡ a → newest cmp f ks ≡ b → newer cmp a b ≡ Some x → (newest cmp f ks ≡ Some x → (op : Operation) × Among ks op × (f op ≡ Some x)) → (op : Operation) × Among (k ∷ ks) op × (f op ≡ Some x)
    by None b p q r rec = let g = rec (q ∙ r) in (g.0, inr g.1, g.2)
    by (Some a) None p q r rec = (k, inl refl, p ∙ r)
    by (Some a) (Some b) p q r rec = three (cmp a b) r
      where
        three : (o : Ordering) → Some (by_order o a b) ≡ Some x → (op : Operation) × Among (k ∷ ks) op × (f op ≡ Some x)
        three Less r = let g = rec (q ∙ r) in (g.0, inr g.1, g.2)
        three Equal r = (k, inl refl, p ∙ r)
        three Greater r = (k, inl refl, p ∙ r)

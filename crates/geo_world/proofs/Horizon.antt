-- The horizon of a site: each site that it does not hold for retired has passed it, and it never falls.
use Rattle.std.proofs.Common.{◌≡◌, ◌≢◌, ℕ, zero, suc, ◌+◌, ◌≤◌, max, min, Bool, true, false, cond, not, ◌&&◌, ◌||◌, ◌==◌, List, [], ◌∷◌, length, refl, sym, ap, ◌∙◌, subst, ◌⊎◌, inl, inr, arith, true≢false, slice_set, slice_index_or}
use Rattle.std.proofs.lemmas.Bool.{cases_eq, cases_lt}
use Rattle.std.proofs.lemmas.Bool.Decides.{eqb_tells}
use Rattle.geo_stamp.specs.Stamps.{last_time}
use Rattle.geo_stamp.specs.Retired.{is_in}
use Rattle.geo_stamp.specs.Acks.{Heard, row_of, told_of, with_own, each_site, least_of_sites, agrees, horizon_by, horizon_of, looked}
use Rattle.geo_stamp.specs.Vectors.{entry_of}
use Rattle.geo_records.specs.Operations.{Operation, Act, Among}
use Rattle.geo_delta.specs.declared.parcel.Parcel.{Parcel}
use Rattle.geo_laws.proofs.Joins.{joined_same}
use Rattle.geo_site.proofs.Entries.{entry_stays, length_raised}
use Rattle.geo_site.specs.Machine.{SiteState, clock_of, issue, issue_all}
use Rattle.geo_world.specs.Schedule.{Sending, StableAt}
use Rattle.geo_world.specs.Reports.{Views, OneOf, Within, Below, Reported, Passed, HasPassed}
use Rattle.geo_world.specs.Bounds.{IsAbove, Bounded}
use Rattle.geo_world.proofs.Bounding.{above_entry, above_trans, above_raised}
use Rattle.geo_world.proofs.Reports.{either, not_both, outside, Agrees, passed_of}

-- ---- tests
both : (a b : Bool) → (a && b) ≡ true → (a ≡ true) × (b ≡ true)
both true b h = (refl, h)
both false b h = absurd (true≢false (sym h))

one_of : (a b : Bool) → (a || b) ≡ true → (a ≡ true) ⊎ (b ≡ true)
one_of true b h = inl refl
one_of false b h = inr h

first_of : (a b : Bool) → a ≡ true → (a || b) ≡ true
first_of true b h = refl
first_of false b h = absurd (true≢false (sym h))

second_of : (a b : Bool) → b ≡ true → (a || b) ≡ true
second_of true b h = refl
second_of false b h = h

all_of : (a b : Bool) → a ≡ true → b ≡ true → (a && b) ≡ true
all_of true b h k = k
all_of false b h k = absurd (true≢false (sym h))

not_true : (a : Bool) → not a ≡ true → a ≡ false
not_true true h = absurd (true≢false (sym h))
not_true false h = refl

equal_to : (a b : ℕ) → a ≡ b → (a == b) ≡ true
equal_to a b h = elim (eqb_tells a b) [ inl p ↦ p.0 | inr p ↦ absurd (p.1 h) ]

equal_from : (a b : ℕ) → (a == b) ≡ true → a ≡ b
equal_from a b h = elim (eqb_tells a b) [ inl p ↦ p.1 | inr p ↦ absurd (true≢false (sym h ∙ p.0)) ]

-- ---- each of the sites, and the least of them
each_of : (n : ℕ) (f : ℕ → Bool) → each_site n f ≡ true → (k : ℕ) → OneOf n k → f k ≡ true
each_of zero f h k one = let a = one.0 in let b = one.1 in absurd (omega (arith, a, b))
each_of (suc n) f h k one = elim (cases_eq k (suc n)) [
  | inl e ↦ subst (λ k. f k ≡ true) (sym e) (both (f (suc n)) (each_site n f) h).0
  | inr ne ↦ each_of n f (both (f (suc n)) (each_site n f) h).1 k (one.0, (let b = one.1 in omega (arith, b, ne)))
]

of_each : (n : ℕ) (f : ℕ → Bool) → ((k : ℕ) → OneOf n k → f k ≡ true) → each_site n f ≡ true
of_each zero f h = refl
of_each (suc n) f h = all_of (f (suc n)) (each_site n f) (h (suc n) (omega arith, omega arith)) (of_each n f (λ k one. h k (one.0, (let b = one.1 in omega (arith, b)))))

least_at_most : (n : ℕ) (keep : ℕ → Bool) (f : ℕ → ℕ) (k : ℕ) → OneOf n k → keep k ≡ true → least_of_sites n keep f ≤ f k
least_at_most zero keep f k one h = let a = one.0 in let b = one.1 in absurd (omega (arith, a, b))
least_at_most (suc n) keep f k one h = elim (cases_eq k (suc n)) [
  | inl e ↦ here (keep (suc n)) (subst (λ k. keep k ≡ true) e h) e
  | inr ne ↦ below (keep (suc n)) (least_at_most n keep f k (one.0, (let b = one.1 in omega (arith, b, ne))) h)
]
  where
    here : (b : Bool) → b ≡ true → k ≡ suc n → cond b (min (f (suc n)) (least_of_sites n keep f)) (least_of_sites n keep f) ≤ f k
    here true t e = subst (λ k. min (f (suc n)) (least_of_sites n keep f) ≤ f k) (sym e) (omega arith)
    here false t e = absurd (true≢false (sym t))

    below : (b : Bool) → least_of_sites n keep f ≤ f k → cond b (min (f (suc n)) (least_of_sites n keep f)) (least_of_sites n keep f) ≤ f k
    below true le = omega (arith, le)
    below false le = le

least_in_range : (n : ℕ) (keep : ℕ → Bool) (f : ℕ → ℕ) → least_of_sites n keep f ≤ last_time
least_in_range zero keep f = omega arith
least_in_range (suc n) keep f = by (keep (suc n)) (least_in_range n keep f)
  where
    by : (b : Bool) → least_of_sites n keep f ≤ last_time → cond b (min (f (suc n)) (least_of_sites n keep f)) (least_of_sites n keep f) ≤ last_time
    by true le = omega (arith, le)
    by false le = le

at_most_least : (n : ℕ) (keep : ℕ → Bool) (f : ℕ → ℕ) (x : ℕ) → x ≤ last_time → ((k : ℕ) → OneOf n k → keep k ≡ true → x ≤ f k) → x ≤ least_of_sites n keep f
at_most_least zero keep f x top h = top
at_most_least (suc n) keep f x top h = by (keep (suc n)) (h (suc n) (omega arith, omega arith)) (at_most_least n keep f x top (λ k one. h k (one.0, (let b = one.1 in omega (arith, b)))))
  where
    by : (b : Bool) → (b ≡ true → x ≤ f (suc n)) → x ≤ least_of_sites n keep f → x ≤ cond b (min (f (suc n)) (least_of_sites n keep f)) (least_of_sites n keep f)
    by true here rest = let a = here refl in omega (arith, a, rest)
    by false here rest = rest

-- ---- a site's own row
own_at : (all : List (List ℕ)) (j : ℕ) (x : List ℕ) → 1 ≤ length (slice_index_or all j []) → slice_index_or (slice_set all j x) j [] ≡ x
own_at [] j x h = absurd (omega arith)
own_at (y ∷ ys) zero x h = refl
own_at (y ∷ ys) (suc j) x h = own_at ys j x h

own_not : (all : List (List ℕ)) (j i : ℕ) (x : List ℕ) → i ≢ j → slice_index_or (slice_set all j x) i [] ≡ slice_index_or all i []
own_not [] j i x ne = refl
own_not (y ∷ ys) zero zero x ne = absurd (ne refl)
own_not (y ∷ ys) zero (suc i) x ne = refl
own_not (y ∷ ys) (suc j) zero x ne = refl
own_not (y ∷ ys) (suc j) (suc i) x ne = own_not ys j i x (λ e. ne (ap suc e))

own_here : (all : List (List ℕ)) (s : ℕ) (v : List ℕ) → 1 ≤ length (row_of all s) → row_of (with_own all s v) s ≡ v
own_here all zero v h = absurd (omega arith)
own_here all (suc j) v h = own_at all j v h

own_there : (all : List (List ℕ)) (s q : ℕ) (v : List ℕ) → q ≢ s → row_of (with_own all s v) q ≡ row_of all q
own_there all zero q v ne = refl
own_there all (suc j) zero v ne = refl
own_there all (suc j) (suc i) v ne = own_not all j i v (λ e. ne (ap suc e))

-- ---- what the formula gives
module _ (h : Heard) (own : ℕ) (v : List ℕ) where
  -- a column that is counted
  counted : (leave r : Bool) → (leave && r) ≡ false → not (leave && r) ≡ true
  counted leave r e = ap not e

  pub by_at_most : (leave : Bool) (t j : ℕ) → OneOf (length v) t → is_in h.set t ≡ false → OneOf (length v) j → (leave && is_in h.set j) ≡ false
      → horizon_by leave h own v ≤ entry_of (row_of (with_own h.rows own v) t) j
  by_at_most leave t j one_t out one_j count =
      let a = least_at_most (length v) (λ t. not (is_in h.set t)) (λ t. least_of_sites (length v) (λ j. not (leave && is_in h.set j)) (entry_of (row_of (with_own h.rows own v) t))) t one_t (ap not out) in
      let b = least_at_most (length v) (λ j. not (leave && is_in h.set j)) (entry_of (row_of (with_own h.rows own v) t)) j one_j (ap not count) in
      omega (arith, a, b)

  pub by_at_least : (leave : Bool) (x : ℕ) → x ≤ last_time → ((t j : ℕ) → OneOf (length v) t → is_in h.set t ≡ false → OneOf (length v) j → (leave && is_in h.set j) ≡ false
      → x ≤ entry_of (row_of (with_own h.rows own v) t) j) → x ≤ horizon_by leave h own v
  by_at_least leave x top each =
      at_most_least (length v) (λ t. not (is_in h.set t)) (λ t. least_of_sites (length v) (λ j. not (leave && is_in h.set j)) (entry_of (row_of (with_own h.rows own v) t))) x top
      (λ t one_t out. at_most_least (length v) (λ j. not (leave && is_in h.set j)) (entry_of (row_of (with_own h.rows own v) t)) x top
      (λ j one_j count. each t j one_t (not_true (is_in h.set t) out) one_j (not_true (leave && is_in h.set j) count)))

  by_in_range : (leave : Bool) → horizon_by leave h own v ≤ last_time
  by_in_range leave = least_in_range (length v) (λ t. not (is_in h.set t)) (λ t. least_of_sites (length v) (λ j. not (leave && is_in h.set j)) (entry_of (row_of (with_own h.rows own v) t)))

  -- where the reports agree each other site outside told all of the set, with the site's own entries
  pub agreed : agrees h own v ≡ true → (t r : ℕ) → OneOf (length v) t → t ≢ own → is_in h.set t ≡ false → OneOf (length v) r → is_in h.set r ≡ true
      → (is_in (told_of h.told t) r ≡ true) × (entry_of (row_of h.rows t) r ≡ entry_of v r)
  agreed yes_all t r one_t ne out one_r has =
      elim (one_of (t == own || is_in h.set t) (tells t) (each_of (length v) (λ t. t == own || is_in h.set t || tells t) yes_all t one_t)) [
        | inl a ↦ elim (one_of (t == own) (is_in h.set t) a) [ inl e ↦ absurd (ne (equal_from t own e)) | inr e ↦ absurd (not_both (is_in h.set t) e out) ]
        | inr a ↦ elim (one_of (not (is_in h.set r)) (is_in (told_of h.told t) r && entry_of (row_of h.rows t) r == entry_of v r) (each_of (length v) (λ r. not (is_in h.set r) || (is_in (told_of h.told t) r && entry_of (row_of h.rows t) r == entry_of v r)) a r one_r)) [
          | inl b ↦ absurd (not_both (is_in h.set r) has (not_true (is_in h.set r) b))
          | inr b ↦ let c = both (is_in (told_of h.told t) r) (entry_of (row_of h.rows t) r == entry_of v r) b in (c.0, equal_from (entry_of (row_of h.rows t) r) (entry_of v r) c.1)
        ]
      ]
    where
      tells : ℕ → Bool
      tells t = each_site (length v) (λ r. not (is_in h.set r) || (is_in (told_of h.told t) r && entry_of (row_of h.rows t) r == entry_of v r))

  pub agreed_from : ((t r : ℕ) → OneOf (length v) t → t ≢ own → is_in h.set t ≡ false → OneOf (length v) r → is_in h.set r ≡ true
      → (is_in (told_of h.told t) r ≡ true) × (entry_of (row_of h.rows t) r ≡ entry_of v r)) → agrees h own v ≡ true
  agreed_from each = of_each (length v) (λ t. t == own || is_in h.set t || tells t) (λ t one_t. elim (cases_eq t own) [
    | inl e ↦ first_of (t == own || is_in h.set t) (tells t) (first_of (t == own) (is_in h.set t) (equal_to t own e))
    | inr ne ↦ elim (either (is_in h.set t)) [
      | inl e ↦ first_of (t == own || is_in h.set t) (tells t) (second_of (t == own) (is_in h.set t) e)
      | inr out ↦ second_of (t == own || is_in h.set t) (tells t) (of_each (length v) (told t) (λ r one_r. elim (either (is_in h.set r)) [
        | inr differ ↦ first_of (not (is_in h.set r)) (is_in (told_of h.told t) r && entry_of (row_of h.rows t) r == entry_of v r) (ap not differ)
        | inl has ↦ let p = each t r one_t ne out one_r has in
            second_of (not (is_in h.set r)) (is_in (told_of h.told t) r && entry_of (row_of h.rows t) r == entry_of v r)
            (all_of (is_in (told_of h.told t) r) (entry_of (row_of h.rows t) r == entry_of v r) p.0 (equal_to (entry_of (row_of h.rows t) r) (entry_of v r) p.1))
      ]))
    ]
  ])
    where
      told : ℕ → ℕ → Bool
      told t r = not (is_in h.set r) || (is_in (told_of h.told t) r && entry_of (row_of h.rows t) r == entry_of v r)

      tells : ℕ → Bool
      tells t = each_site (length v) (told t)

  -- what was kept is never undercut
  pub horizon_kept : h.reached ≤ horizon_of h own v
  horizon_kept = by (is_in h.set own)
    where
      by : (b : Bool) → h.reached ≤ cond b h.reached (max h.reached (horizon_by (agrees h own v) h own v))
      by true = omega arith
      by false = omega arith

-- ---- operations that the site issues
-- only the own entry rises
pub record OwnRises (own : ℕ) (v w : List ℕ) : Type 0 where
  pub many : length w ≡ length v
  pub others : (j : ℕ) → j ≢ own → entry_of w j ≡ entry_of v j
  pub above : IsAbove w v

pub issued_rises : (s : ℕ) (all : List Act) (st : SiteState) → OwnRises s st.vector (issue_all s all st).vector
issued_rises s [] st = record { many = refl; others = λ j ne. refl; above = joined_same st.vector }
issued_rises s (act ∷ all) st =
    let more = issued_rises s all (issue s act st) in
    record {
      many = more.many ∙ length_raised st.vector s (clock_of st + 1);
      others = λ j ne. more.others j ne ∙ entry_stays st.vector s (clock_of st + 1) j ne;
      above = above_trans (issue_all s all (issue s act st)).vector (issue s act st).vector st.vector more.above (above_raised st.vector s (clock_of st + 1));
    }

module _ (h : Heard) (own : ℕ) (v w : List ℕ) (rises : OwnRises own v w) (some : 1 ≤ length (row_of h.rows own)) where
  many : (k : ℕ) → OneOf (length w) k → OneOf (length v) k
  many k one = (one.0, (let e = rises.many in let b = one.1 in omega (arith, e, b)))

  back : (k : ℕ) → OneOf (length v) k → OneOf (length w) k
  back k one = (one.0, (let e = rises.many in let b = one.1 in omega (arith, e, b)))

  row_rises : (t j : ℕ) → entry_of (row_of (with_own h.rows own v) t) j ≤ entry_of (row_of (with_own h.rows own w) t) j
  row_rises t j = elim (cases_eq t own) [
    | inl e ↦
        let a = ap (λ r. entry_of r j) (ap (row_of (with_own h.rows own v)) e ∙ own_here h.rows own v some) in
        let b = ap (λ r. entry_of r j) (ap (row_of (with_own h.rows own w)) e ∙ own_here h.rows own w some) in
        let up = above_entry w v j rises.above in
        omega (arith, a, b, up)
    | inr ne ↦
        let a = ap (λ r. entry_of r j) (own_there h.rows own t v ne) in
        let b = ap (λ r. entry_of r j) (own_there h.rows own t w ne) in
        omega (arith, a, b)
  ]

  module _ (out : is_in h.set own ≡ false) where
    -- the entries for retired ones are as they were
    same_entry : (r : ℕ) → is_in h.set r ≡ true → entry_of w r ≡ entry_of v r
    same_entry r has = rises.others r (λ e. not_both (is_in h.set own) (subst (λ k. is_in h.set k ≡ true) e has) out)

    agrees_still : agrees h own v ≡ true → agrees h own w ≡ true
    agrees_still yes_all = agreed_from h own w (λ t r one_t ne free one_r has. let a = agreed h own v yes_all t r (many t one_t) ne free (many r one_r) has in (a.0, a.1 ∙ sym (same_entry r has)))

    -- a column that is counted after it was counted before, or all were
    column : (t j : ℕ) → OneOf (length v) t → is_in h.set t ≡ false → OneOf (length v) j → (agrees h own w && is_in h.set j) ≡ false
        → horizon_by (agrees h own v) h own v ≤ entry_of (row_of (with_own h.rows own v) t) j
    column t j one_t free one_j count = elim (either (agrees h own v)) [
      | inr differ ↦ by_at_most h own v (agrees h own v) t j one_t free one_j (ap (λ b. b && is_in h.set j) differ)
      | inl yes_all ↦ by_at_most h own v (agrees h own v) t j one_t free one_j (ap (λ b. b && is_in h.set j) (yes_all ∙ sym (agrees_still yes_all)) ∙ count)
    ]

    formula_rises : horizon_by (agrees h own v) h own v ≤ horizon_by (agrees h own w) h own w
    formula_rises = by_at_least h own w (agrees h own w) (horizon_by (agrees h own v) h own v) (by_in_range h own v (agrees h own v))
        (λ t j one_t free one_j count. let a = column t j (many t one_t) free (many j one_j) count in let r = row_rises t j in omega (arith, a, r))

  pub horizon_rises : horizon_of h own v ≤ horizon_of h own w
  horizon_rises = by (is_in h.set own) refl
    where
      by : (b : Bool) → is_in h.set own ≡ b → cond b h.reached (max h.reached (horizon_by (agrees h own v) h own v)) ≤ cond b h.reached (max h.reached (horizon_by (agrees h own w) h own w))
      by true e = omega arith
      by false e = let up = formula_rises e in omega (arith, up)

-- ---- all have passed it
-- what a site sees is this
pub record Sees (n : ℕ) (x : Views) (p : ℕ) (h : Heard) (v : List ℕ) : Type 0 where
  pub one : OneOf n p
  pub vector : x.vector p ≡ v
  pub set : x.set p ≡ h.set
  pub row : (t : ℕ) → x.row p t ≡ row_of h.rows t
  pub told : (t : ℕ) → x.told p t ≡ told_of h.told t
  pub many : length v ≡ n
  pub some : 1 ≤ length (row_of h.rows p)

module _ (n : ℕ) (x : Views) (parcels : List Parcel) (all : Reported n x parcels) (low : (s t : ℕ) → OneOf n t → Below n (x.row s t) (x.vector t)) (p : ℕ) (h : Heard) (v : List ℕ) (sees : Sees n x p h v) where
  few : (k : ℕ) → OneOf n k → OneOf (length v) k
  few k one = (one.0, (let e = sees.many in let b = one.1 in omega (arith, e, b)))

  free : (k : ℕ) → is_in (x.set p) k ≡ false → is_in h.set k ≡ false
  free k out = ap (λ a. is_in a k) (sym sees.set) ∙ out

  taken : (k : ℕ) → is_in (x.set p) k ≡ true → is_in h.set k ≡ true
  taken k has = ap (λ a. is_in a k) (sym sees.set) ∙ has

  own_entry : (j : ℕ) → entry_of (row_of (with_own h.rows p v) p) j ≡ entry_of (x.vector p) j
  own_entry j = ap (λ r. entry_of r j) (own_here h.rows p v sees.some ∙ sym sees.vector)

  other_entry : (t j : ℕ) → t ≢ p → entry_of (row_of (with_own h.rows p v) t) j ≡ entry_of (x.row p t) j
  other_entry t j ne = ap (λ r. entry_of r j) (own_there h.rows p t v ne ∙ sym (sees.row t))

  agrees_there : agrees h p v ≡ true → Agrees n x p
  agrees_there yes_all = record {
    told = λ t r one_t ne out one_r has. ap (λ a. is_in a r) (sees.told t) ∙ (agreed h p v yes_all t r (few t one_t) ne (free t out) (few r one_r) (taken r has)).0;
    same = λ t r one_t ne out one_r has. ap (λ a. entry_of a r) (sees.row t) ∙ (agreed h p v yes_all t r (few t one_t) ne (free t out) (few r one_r) (taken r has)).1 ∙ ap (λ a. entry_of a r) (sym sees.vector);
  }

  pub formula_passed : is_in (x.set p) p ≡ false → Passed n x (x.set p) (horizon_by (agrees h p v) h p v)
  formula_passed here =
      let leave = agrees h p v in
      passed_of n x parcels all low p sees.one (horizon_by leave h p v)
      (λ j one_j out. let a = by_at_most h p v leave p j (few p sees.one) (free p here) (few j one_j) (left leave (is_in h.set j) (free j out)) in let e = own_entry j in omega (arith, a, e))
      (λ t j one_t ne out_t one_j out. let a = by_at_most h p v leave t j (few t one_t) (free t out_t) (few j one_j) (left leave (is_in h.set j) (free j out)) in let e = other_entry t j ne in omega (arith, a, e))
      (elim (either leave) [
        | inl yes_all ↦ inr (agrees_there yes_all)
        | inr differ ↦ inl (
          λ j one_j. let a = by_at_most h p v leave p j (few p sees.one) (free p here) (few j one_j) (ap (λ b. b && is_in h.set j) differ) in let e = own_entry j in omega (arith, a, e),
          λ t j one_t ne out one_j. let a = by_at_most h p v leave t j (few t one_t) (free t out) (few j one_j) (ap (λ b. b && is_in h.set j) differ) in let e = other_entry t j ne in omega (arith, a, e),
        )
      ])
    where
      left : (a b : Bool) → b ≡ false → (a && b) ≡ false
      left true b e = e
      left false b e = refl

  -- what a site answers, where it has passed what it kept
  pub answer_passed : HasPassed n x p h.reached → HasPassed n x p (horizon_of h p v)
  answer_passed kept = by (is_in h.set p) refl
    where
      greater : (a b : ℕ) → HasPassed n x p a → HasPassed n x p b → HasPassed n x p (max a b)
      greater a b one other = elim (cases_lt a b) [
        | inl lt ↦ let e : b ≡ max a b = omega (arith, lt) in subst (λ time. HasPassed n x p time) e other
        | inr le ↦ let e : a ≡ max a b = omega (arith, le) in subst (λ time. HasPassed n x p time) e one
      ]

      by : (b : Bool) → is_in h.set p ≡ b → HasPassed n x p (cond b h.reached (max h.reached (horizon_by (agrees h p v) h p v)))
      by true e = kept
      by false e =
          let here : is_in (x.set p) p ≡ false = ap (λ a. is_in a p) sees.set ∙ e in
          greater h.reached (horizon_by (agrees h p v) h p v) kept (record { set = x.set p; out = here; within = λ j one has. has; passed = formula_passed here })

-- ---- what was passed is known
module _ (n : ℕ) (x : Views) (H : ℕ → ℕ → List ℕ) (parcels : List Parcel) (at : ℕ → List Operation) (sent : List Sending) (b : Bounded n x.vector H parcels at sent) where
  -- entries past what their site issued promise nothing: so an operation that one knows has reached its entry
  pub passed_known : (set : List Bool) (time : ℕ) → Passed n x set time → ((t : ℕ) (op : Operation) → OneOf n t → Among (at t) op → op.stamp.time ≤ entry_of (x.vector t) op.stamp.site)
      → (s t : ℕ) (op : Operation) → OneOf n s → is_in set s ≡ false → OneOf n t → is_in set t ≡ false → Among (at s) op → op.stamp.time ≤ time → Among (at t) op
  passed_known set time passed covers s t op one_s out_s one_t out_t a le =
      let one : OneOf n op.stamp.site = (b.first s op a, b.last s op a) in
      let reached : op.stamp.time ≤ entry_of (x.vector t) op.stamp.site = (elim passed.rest [
        | inl each ↦ let h = each t op.stamp.site one_t out_t one in omega (arith, h, le)
        | inr closed ↦ elim (either (is_in set op.stamp.site)) [
          | inl has ↦ let e = closed.same s t op.stamp.site one_s out_s one_t out_t one has in let c = covers s op one_s a in omega (arith, e, c)
          | inr free ↦ let h = passed.front t op.stamp.site one_t out_t one free in omega (arith, h, le)
        ]
      ]) in
      b.complete t s op a reached

  -- among the sites outside of a greater set
  pub passed_stable : (set more : List Bool) (time : ℕ) → Passed n x set time → Within n set more → ((t : ℕ) (op : Operation) → OneOf n t → Among (at t) op → op.stamp.time ≤ entry_of (x.vector t) op.stamp.site)
      → StableAt n more at time
  passed_stable set more time passed within covers = record {
    known = λ r s op r_first r_last out_r s_first s_last out_s a le.
        passed_known set time passed covers r s op (r_first, r_last) (outside n set more within r (r_first, r_last) out_r) (s_first, s_last) (outside n set more within s (s_first, s_last) out_s) a le;
    past = λ s first last out.
        let free = outside n set more within s (first, last) out in
        let h = passed.front s s (first, last) free (first, last) free in
        let p = b.past s s in
        omega (arith, h, p);
  }

-- and up to any time before it
pub stable_below : (n : ℕ) (set : List Bool) (at : ℕ → List Operation) (h time : ℕ) → time ≤ h → StableAt n set at h → StableAt n set at time
stable_below n set at h time le stable = record {
  known = λ r s op a b c d e f g early. stable.known r s op a b c d e f g (omega (arith, le, early));
  past = λ s a b c. let p = stable.past s a b c in omega (arith, le, p);
}

-- Up to which time records last over removals: what is joined of two lasts as long as both, and what is cut at a floor to the least
-- time of its registers, or for good where it has a version.
use Rattle.std.proofs.Common.{◌≡◌, ◌≤◌, ◌<◌, ◌&&◌, not, ℕ, suc, min, Bool, true, false, cond, nat_le, List, [], ◌∷◌, Option, None, Some, is_some, IfSome, refl, sym, ap, ◌∙◌, subst, ◌⊎◌, inl, inr, arith, true≢false}
use Rattle.std.proofs.lemmas.Bool.Decides.{nat_tests}
use Rattle.std.specs.Cmp.{ranks}
use Rattle.std.specs.List.{All}
use Rattle.std.specs.Cmp.Lexicographic.{same_text}
use Rattle.std.specs.declared.cmp.Ordering.{Ordering}
use Rattle.std.specs.declared.cmp.Ordering.TheVariants.{Less, Equal, Greater}
use Rattle.std.specs.Ordering.{nat_cmp, ordering_then, MatchOrdering}
use Rattle.geo_maps.specs.Maps.{meaning_or, all_joined}
use Rattle.geo_laws.specs.Registers.{newer, by_both, by_order, greater}
use Rattle.geo_stamp.specs.Stamps.{Moment, stamp_cmp}
use Rattle.geo_records.proofs.Above.{newer_none}
use Rattle.geo_records.specs.Bodies.{body_cmp}
use Rattle.geo_records.specs.Keys.{same_key}
use Rattle.geo_records.specs.Operations.{Record, Register, above, above_both, is_above, record_joined, version_in}
use Rattle.geo_versions.specs.Records.{Rec, rec_means, rec_above, has_register, is_old, is_over, remaining, LastsTo, time_in, lasting_of}
use Rattle.geo_records.specs.declared.body.Body.{Body}
use Rattle.geo_records.specs.declared.body.Body.TheVariants.{Value, Gone}

-- the greater of two registers is as late as both
module _ {A : Type 0} (C : A → A → Ordering) (a b : Moment × A) where
  abbrev LaterThanBoth : Moment × A → Type 0
  LaterThanBoth x = (a.0.time ≤ x.0.time) × (b.0.time ≤ x.0.time)

  tied : (o : Ordering) → a.0.time ≡ b.0.time → LaterThanBoth (by_order o a b)
  tied Less e = (omega (arith, e), omega (arith, e))
  tied Equal e = (omega (arith, e), omega (arith, e))
  tied Greater e = (omega (arith, e), omega (arith, e))

  by_times : (o p r : Ordering) → MatchOrdering o (a.0.time < b.0.time) (a.0.time ≡ b.0.time) (b.0.time < a.0.time)
      → LaterThanBoth (by_order (ordering_then (ordering_then o p) r) a b)
  by_times Less p r m = (omega (arith, m), omega (arith, m))
  by_times Equal p r m = tied (ordering_then p r) m
  by_times Greater p r m = (omega (arith, m), omega (arith, m))

  later_than_both : LaterThanBoth (greater (by_both stamp_cmp C) a b)
  later_than_both = by_times (nat_cmp a.0.time b.0.time) (nat_cmp a.0.site b.0.site) (C a.1 b.1) (ranks a.0.time b.0.time)

old_before : (x y h : ℕ) → x ≤ y → nat_le y h ≡ true → nat_le x h ≡ true
old_before x y h le old = grind (arith, nat_tests)

old_both : {A : Type 0} (C : A → A → Ordering) (h : ℕ) (a b : Register A) → is_old h (newer (by_both stamp_cmp C) a b) ≡ true
    → (is_old h a ≡ true) × (is_old h b ≡ true)
old_both C h None b old = (refl, old)
old_both C h (Some a) None old = (old, refl)
old_both C h (Some a) (Some b) old =
    let later = later_than_both C a b in
    let time = (greater (by_both stamp_cmp C) a b).0.time in
    (old_before a.0.time time h later.0 old, old_before b.0.time time h later.1 old)

either : {A : Type 0} (cmp : A → A → Ordering) (a b : Option A) → (newer cmp a b ≡ a) ⊎ (newer cmp a b ≡ b)
either cmp None b = inr refl
either cmp (Some a) None = inl refl
either cmp (Some a) (Some b) = by (cmp a b)
  where
    by : (o : Ordering) → (Some (by_order o a b) ≡ Some a) ⊎ (Some (by_order o a b) ≡ Some b)
    by Less = inr refl
    by Equal = inl refl
    by Greater = inl refl

-- whether there is a version shows in the body alone
shown_alone : (b : Register Body) (e : Register ℕ) → is_some (version_in (b, e)) ≡ is_some (version_in (b, None))
shown_alone None e = refl
shown_alone (Some (s, Gone)) e = refl
shown_alone (Some (s, Value d f l)) None = refl
shown_alone (Some (s, Value d f l)) (Some x) = refl

over_parts : (v a b : Bool) → not v && (a && b) ≡ true → (v ≡ false) × ((a ≡ true) × (b ≡ true))
over_parts true a b h = absurd (true≢false (sym h))
over_parts false true true h = (refl, (refl, refl))
over_parts false true false h = absurd (true≢false (sym h))
over_parts false false b h = absurd (true≢false (sym h))

over_from : (h : ℕ) (r : Record) → is_some (version_in r) ≡ false → is_old h r.0 ≡ true → is_old h r.1 ≡ true → is_over h r ≡ true
over_from h r v a b = λ i. not (v i) && (a i && b i)

-- what lasts and would go is nothing
over_empty : (time h : ℕ) (r : Record) → LastsTo time r → h < time → is_over h r ≡ true → r ≡ (None, None)
over_empty time h r lasts lt over = sym (lasts h lt) ∙ ap (λ t. cond {A = Record} t (None, None) r) over

lasts_by : (h : ℕ) (r : Record) → (is_over h r ≡ true → r ≡ (None, None)) → remaining h r ≡ r
lasts_by h r empty = by (is_over h r) refl
  where
    by : (t : Bool) → is_over h r ≡ t → remaining h r ≡ r
    by true e = ap (λ t. cond {A = Record} t (None, None) r) e ∙ sym (empty e)
    by false e = ap (λ t. cond {A = Record} t (None, None) r) e

pub lasts_less : (time less : ℕ) (r : Record) → less ≤ time → LastsTo time r → LastsTo less r
lasts_less time less r le lasts h lt = lasts h (omega (arith, le, lt))

pub lasts_joined : (time : ℕ) (a b : Record) → LastsTo time a → LastsTo time b → LastsTo time (record_joined a b)
lasts_joined time a b la lb h lt = lasts_by h j empty
  where
    j : Record
    j = record_joined a b

    empty : is_over h j ≡ true → j ≡ (None, None)
    empty over =
        let parts = over_parts (is_some (version_in j)) (is_old h j.0) (is_old h j.1) over in
        let bodies = old_both body_cmp h a.0 b.0 parts.1.0 in
        let expiries = old_both nat_cmp h a.1 b.1 parts.1.1 in
        let alone = sym (shown_alone j.0 j.1) ∙ parts.0 in
        elim (either (by_both stamp_cmp body_cmp) a.0 b.0) [
          | inl p ↦
              let shown : is_some (version_in a) ≡ false = shown_alone a.0 a.1 ∙ ap (λ (b : Register Body). is_some (version_in (b, None))) (sym p) ∙ alone in
              let none : a ≡ (None, None) = over_empty time h a la lt (over_from h a shown bodies.0 expiries.0) in
              let other : j ≡ b = ap (λ (a : Record). record_joined a b) none in
              other ∙ over_empty time h b lb lt (ap (is_over h) (sym other) ∙ over)
          | inr p ↦
              let shown : is_some (version_in b) ≡ false = shown_alone b.0 b.1 ∙ ap (λ (b : Register Body). is_some (version_in (b, None))) (sym p) ∙ alone in
              let none : b ≡ (None, None) = over_empty time h b lb lt (over_from h b shown bodies.1 expiries.1) in
              let other : j ≡ a = ap (λ (b : Record). record_joined a b) none ∙ (λ i. (newer_none (by_both stamp_cmp body_cmp) a.0 i, newer_none (by_both stamp_cmp nat_cmp) a.1 i)) in
              other ∙ over_empty time h a la lt (ap (is_over h) (sym other) ∙ over)
        ]

-- a touch of what is there
pub lasts_touched : (time : ℕ) (a : Record) (x : Register ℕ) → LastsTo time a → (a ≡ (None, None) → ⊥) → LastsTo time (record_joined a (None, x))
lasts_touched time a x la there h lt = lasts_by h j empty
  where
    j : Record
    j = record_joined a (None, x)

    empty : is_over h j ≡ true → j ≡ (None, None)
    empty over =
        let parts = over_parts (is_some (version_in j)) (is_old h j.0) (is_old h j.1) over in
        let bodies = old_both body_cmp h a.0 None parts.1.0 in
        let expiries = old_both nat_cmp h a.1 x parts.1.1 in
        let shown : is_some (version_in a) ≡ false =
        shown_alone a.0 a.1 ∙ ap (λ (b : Register Body). is_some (version_in (b, None))) (sym (newer_none (by_both stamp_cmp body_cmp) a.0))
        ∙ sym (shown_alone j.0 j.1) ∙ parts.0 in
        absurd (there (over_empty time h a la lt (over_from h a shown bodies.0 expiries.0)))

above_or : {A : Type 0} (f : Option Moment) (r : Register A) → (above f r ≡ None) ⊎ (above f r ≡ r)
above_or f None = inl refl
above_or f (Some r) = by (is_above f r.0)
  where
    by : (t : Bool) → (cond t (Some r) None ≡ None) ⊎ (cond t (Some r) None ≡ Some r)
    by true = inr refl
    by false = inl refl

not_old : (t h : ℕ) → h < t → nat_le t h ≡ false
not_old t h lt = grind (arith, nat_tests)

-- before its time a register isn't old
young : {A : Type 0} (h : ℕ) (r : Register A) → h < time_in r → is_old h r ≡ not (is_some r)
young h None lt = refl
young h (Some r) lt = not_old r.0.time h lt

young_above : {A : Type 0} (f : Option Moment) (h : ℕ) (r : Register A) → h < time_in r → is_old h (above f r) ≡ not (is_some (above f r))
young_above {A} f h r lt = elim (above_or f r) [
  | inl p ↦ subst (λ (x : Register A). is_old h x ≡ not (is_some x)) (sym p) refl
  | inr p ↦ subst (λ (x : Register A). is_old h x ≡ not (is_some x)) (sym p) (young h r lt)
]

and_false : (v : Bool) → v && false ≡ false
and_false true = refl
and_false false = refl

young_lasts : (h : ℕ) (b : Register Body) (e : Register ℕ) → is_old h b ≡ not (is_some b) → is_old h e ≡ not (is_some e) → remaining h (b, e) ≡ (b, e)
young_lasts h None None p q = refl
young_lasts h None (Some e) p q = ap (λ t. cond {A = Record} t (None, None) (None, Some e)) q
young_lasts h (Some b) e p q =
    ap (λ t. cond {A = Record} t (None, None) (Some b, e))
    (ap (λ t. not (is_some (version_in (Some b, e))) && (t && is_old h e)) p ∙ and_false (not (is_some (version_in (Some b, e)))))

pub lasts_cut : (f : Option Moment) (r : Record) → LastsTo (lasting_of f r) (above_both f r)
lasts_cut f r h lt = by (is_some (version_in (above_both f r))) refl
  where
    cut : Record
    cut = above_both f r

    by : (t : Bool) → is_some (version_in cut) ≡ t → remaining h cut ≡ cut
    by true e = ap (λ t. cond {A = Record} (not t && (is_old h cut.0 && is_old h cut.1)) (None, None) cut) e
    by false e =
        let below : h < min (time_in r.0) (time_in r.1) = subst (λ t. h < cond {A = ℕ} t 18446744073709551615 (min (time_in r.0) (time_in r.1))) e lt in
        young_lasts h cut.0 cut.1 (young_above f h r.0 (omega (arith, below))) (young_above f h r.1 (omega (arith, below)))

-- what is normal at a floor lasts as it stands
pub lasts_normal : (f : Option Moment) (r : Record) → above_both f r ≡ r → LastsTo (lasting_of f r) r
lasts_normal f r normal = subst (λ (x : Record). LastsTo (lasting_of f r) x) normal (lasts_cut f r)

pub lasts_found : (f : Option Moment) (time : ℕ) (o : Option Rec) → IfSome o (λ (v : Rec). time ≤ lasting_of f (rec_means v))
    → above_both f (meaning_or (None, None) rec_means o) ≡ meaning_or (None, None) rec_means o → LastsTo time (meaning_or (None, None) rec_means o)
lasts_found f time None below normal = λ h lt. refl
lasts_found f time (Some v) below normal = lasts_less (lasting_of f (rec_means v)) time (rec_means v) below (lasts_normal f (rec_means v) normal)

pub lasts_listed : (f : Option Moment) (time : ℕ) (es : List (List ℕ × Rec)) → All (λ e. time ≤ lasting_of f (rec_means e.1)) es → (q : List ℕ)
    → LastsTo time (all_joined {V = Rec} {M = Record} (None, None) (λ r. rec_means (rec_above f r)) record_joined same_key es q)
lasts_listed f time [] all q = λ h lt. refl
lasts_listed f time (e ∷ es) all q = by (same_key q e.0) (lasts_listed f time es (λ k d lt. all (suc k) d (omega (arith, lt))) q)
  where
    rest : Record
    rest = all_joined {V = Rec} {M = Record} (None, None) (λ r. rec_means (rec_above f r)) record_joined same_key es q

    first : LastsTo time (above_both f (rec_means e.1))
    first = lasts_less (lasting_of f (rec_means e.1)) time (above_both f (rec_means e.1)) (all 0 e (omega arith)) (lasts_cut f (rec_means e.1))

    by : (t : Bool) → LastsTo time rest → LastsTo time (cond {A = Record} t (record_joined (rec_means (rec_above f e.1)) rest) rest)
    by true others = lasts_joined time (rec_means (rec_above f e.1)) rest first others
    by false others = others

-- a record is joined at one key
pub lasts_put : (time : ℕ) (old new : List ℕ → Record) (k : List ℕ) (x : Record) → ((q : List ℕ) → LastsTo time (old q)) → LastsTo time x
    → ((q : List ℕ) → new q ≡ cond {A = Record} (same_key k q) (record_joined (old q) x) (old q)) → (q : List ℕ) → LastsTo time (new q)
lasts_put time old new k x lasts own is q = subst (LastsTo time) (sym (is q)) (by (same_key k q))
  where
    by : (t : Bool) → LastsTo time (cond {A = Record} t (record_joined (old q) x) (old q))
    by true = lasts_joined time (old q) x (lasts q) own
    by false = lasts q

pub lasts_same : (time : ℕ) (old new : List ℕ → Record) → ((q : List ℕ) → LastsTo time (old q)) → ((q : List ℕ) → new q ≡ old q) → (q : List ℕ) → LastsTo time (new q)
lasts_same time old new lasts is q = subst (LastsTo time) (sym (is q)) (lasts q)

-- what is there is touched
pub lasts_touch : (time : ℕ) (old new : List ℕ → Record) (k : List ℕ) (x : Register ℕ) → ((q : List ℕ) → LastsTo time (old q)) → (old k ≡ (None, None) → ⊥)
    → ((q : List ℕ) → new q ≡ cond {A = Record} (same_key k q) (record_joined (old q) (None, x)) (old q)) → (q : List ℕ) → LastsTo time (new q)
lasts_touch time old new k x lasts there is q = subst (LastsTo time) (sym (is q)) (by (same_key k q) refl)
  where
    by : (t : Bool) → same_key k q ≡ t → LastsTo time (cond {A = Record} t (record_joined (old q) (None, x)) (old q))
    by true e = lasts_touched time (old q) x (lasts q) (λ h. there (ap old (same_text k q (sym e)) ∙ h))
    by false e = lasts q

-- what has no version has none above a floor
none_above : (f : Option Moment) (b : Register Body) (e : Register ℕ) → is_some (version_in (b, e)) ≡ false → is_some (version_in (above f b, above f e)) ≡ false
none_above f b e none = elim (above_or f b) [
  | inl p ↦ ap (λ (x : Register Body). is_some (version_in (x, above f e))) p
  | inr p ↦ ap (λ (x : Register Body). is_some (version_in (x, above f e))) p ∙ by b e none (above f e)
]
  where
    by : (b : Register Body) (e : Register ℕ) → is_some (version_in (b, e)) ≡ false → (d : Register ℕ) → is_some (version_in (b, d)) ≡ false
    by None e none d = refl
    by (Some (m, Gone)) e none d = refl
    by (Some (m, Value digest flags length)) None none d = absurd (true≢false none)
    by (Some (m, Value digest flags length)) (Some e) none d = absurd (true≢false none)

both_true : (a b : Bool) → a && b ≡ true → (a ≡ true) × (b ≡ true)
both_true true true h = (refl, refl)
both_true true false h = absurd (true≢false (sym h))
both_true false b h = absurd (true≢false (sym h))

not_true : (a : Bool) → not a ≡ true → a ≡ false
not_true true h = absurd (true≢false (sym h))
not_true false h = refl

at_most : (t h : ℕ) → nat_le t h ≡ true → t ≤ h
at_most t h le = grind (arith, nat_tests, le)

-- what a removal drops has a low time
pub over_is_low : (f : Option Moment) (h : ℕ) (r : Record) → has_register r && is_over h r ≡ true → lasting_of f r ≤ h
over_is_low f h (None, None) p = absurd (true≢false (sym p))
over_is_low f h (Some b, e) p =
    let none = not (is_some (version_in (Some b, e))) in
    let both = is_old h (Some b) && is_old h e in
    let over : (none ≡ true) × (both ≡ true) = both_true none both p in
    let early : b.0.time ≤ h = at_most b.0.time h (both_true (nat_le b.0.time h) (is_old h e) over.1).0 in
    subst (λ t. cond {A = ℕ} t 18446744073709551615 (min b.0.time (time_in e)) ≤ h) (sym (none_above f (Some b) e (not_true (is_some (version_in (Some b, e))) over.0))) (omega (arith, early))
over_is_low f h (None, Some e) p =
    let early : e.0.time ≤ h = at_most e.0.time h p in
    subst (λ t. cond {A = ℕ} t 18446744073709551615 (min 18446744073709551615 e.0.time) ≤ h) (sym (none_above f None (Some e) refl)) (omega (arith, early))

-- No expiry that is kept is below the earliest: what is joined has an expiry of one side.
use Rattle.std.proofs.Common.{◌≡◌, ◌≢◌, ◌==◌, ◌&&◌, not, ℕ, suc, ◌+◌, ◌≤◌, ◌<◌, min, Bool, true, false, cond, nat_lt, List, [], ◌∷◌, length, take, get_or, Option, None, Some, refl, sym, ap, ◌∙◌, subst, ◌⊎◌, inl, inr, arith}
use Rattle.std.proofs.lemmas.Bool.Decides.{nat_tests, eqb_tells}
use Rattle.std.proofs.lemmas.List.{take_more}
use Rattle.std.specs.declared.cmp.Ordering.{Ordering}
use Rattle.std.specs.declared.cmp.Ordering.TheVariants.{Less, Equal, Greater}
use Rattle.std.specs.Ordering.{nat_cmp}
use Rattle.geo_laws.specs.Registers.{newer, by_both, by_order}
use Rattle.geo_stamp.specs.Stamps.{Moment, stamp_cmp}
use Rattle.geo_records.specs.Keys.{same_key}
use Rattle.geo_records.specs.Operations.{Register, Record, above, above_both, is_above, record_joined, expiry_joined, version_in}
use Rattle.geo_versions.specs.Maps.{Rec, rec_means, listed_at}
use Rattle.geo_records.specs.declared.body.Body.{Body}
use Rattle.geo_records.specs.declared.body.Body.TheVariants.{Value, Gone}
use Rattle.geo_site.specs.Entries.{is_reapable}
use Rattle.std.specs.List.{All}
use Rattle.std.proofs.lemmas.List.Elements.{All-append, All-cons}
use Rattle.geo_site.specs.Machine.{EndsFrom, earlier_of}
use Rattle.geo_site.specs.Sites.{EndFrom}

some_none : {V : Type 0} {x : V} → Some x ≡ None → ⊥
some_none h = cc

-- what a register may hold that is joined of two
newer_some : {A : Type 0} (cmp : A → A → Ordering) (a b : Option A) (x : A) → newer cmp a b ≡ Some x → (a ≡ Some x) ⊎ (b ≡ Some x)
newer_some cmp None b x h = inr h
newer_some cmp (Some a) None x h = inl h
newer_some cmp (Some a) (Some b) x h = by (cmp a b) h
  where
    by : (o : Ordering) → Some (by_order o a b) ≡ Some x → (Some a ≡ Some x) ⊎ (Some b ≡ Some x)
    by Less h = inr h
    by Equal h = inl h
    by Greater h = inl h

above_some : {A : Type 0} (f : Option Moment) (r : Register A) (x : Moment × A) → above f r ≡ Some x → r ≡ Some x
above_some f None x h = h
above_some f (Some y) x h = by (is_above f y.0) h
  where
    by : (t : Bool) → cond t (Some y) None ≡ Some x → Some y ≡ Some x
    by true h = h
    by false h = absurd (some_none (sym h))

-- the expiry after a join
joined_ends : (f : Option Moment) (a b : Record) (x : Moment × ℕ) → (above_both f (record_joined a b)).1 ≡ Some x → (a.1 ≡ Some x) ⊎ (b.1 ≡ Some x)
joined_ends f a b x h = newer_some (by_both stamp_cmp nat_cmp) a.1 b.1 x (above_some f (expiry_joined a.1 b.1) x h)

pub earlier_least : (least e : ℕ) → earlier_of least e ≤ least
earlier_least least e = by (e == 0)
  where
    by : (t : Bool) → cond {A = ℕ} t least (min least e) ≤ least
    by true = omega arith
    by false = omega arith

earlier_own : (least e : ℕ) → e ≢ 0 → earlier_of least e ≤ e
earlier_own least e ne = elim (eqb_tells e 0) [
  | inl p ↦ absurd (ne p.1)
  | inr p ↦ let m : min least e ≤ e = omega arith in subst (λ n. n ≤ e) (sym (ap (λ t. cond {A = ℕ} t least (min least e)) p.0)) m
]

same_expiry : (s t : Moment) (e f : ℕ) → ◌≡◌ {A = Option (Moment × ℕ)} (Some (s, e)) (Some (t, f)) → e ≡ f
same_expiry s t e f h = let same : ◌≡◌ {A = Moment × ℕ} (s, e) (t, f) = cc in ap (λ (x : Moment × ℕ). x.1) same

-- a write or a touch of a key
module _ (least e : ℕ) (st : Moment) (f : Option Moment) (map map' : List ℕ → Record) (key : List ℕ) (b : Register Body) (ends : EndsFrom least map)
    (new : (q : List ℕ) → map' q ≡ cond {A = Record} (same_key q key) (above_both f (record_joined (map q) (b, Some (st, e)))) (map q)) where
  pub ends_put : EndsFrom (earlier_of least e) map'
  ends_put q s x h ne = by (same_key q key) (new q)
    where
      old : (map q).1 ≡ Some (s, x) → earlier_of least e ≤ x
      old is = let a = earlier_least least e in let o = ends q s x is ne in omega (arith, a, o)

      by : (t : Bool) → map' q ≡ cond {A = Record} t (above_both f (record_joined (map q) (b, Some (st, e)))) (map q) → earlier_of least e ≤ x
      by true is = elim (joined_ends f (map q) (b, Some (st, e)) (s, x) (sym (ap (λ (r : Record). r.1) is) ∙ h)) [
        | inl o ↦ old o
        | inr own ↦ let same = same_expiry st s e x own in let nz : e ≢ 0 = λ z. ne (sym same ∙ z) in subst (λ n. earlier_of least e ≤ n) same (earlier_own least e nz)
      ]
      by false is = old (sym (ap (λ (r : Record). r.1) is) ∙ h)

-- a delete, which has no end
pub ends_gone : (least : ℕ) (st : Moment) (f : Option Moment) (map map' : List ℕ → Record) (key : List ℕ) (b : Register Body) → EndsFrom least map
    → ((q : List ℕ) → map' q ≡ cond {A = Record} (same_key q key) (above_both f (record_joined (map q) (b, Some (st, 0)))) (map q)) → EndsFrom least map'
ends_gone least st f map map' key b ends new = ends_put least 0 st f map map' key b ends new

-- a floor
pub ends_above : (least : ℕ) (f : Option Moment) (map map' : List ℕ → Record) → EndsFrom least map → ((q : List ℕ) → map' q ≡ above_both f (map q)) → EndsFrom least map'
ends_above least f map map' ends new q s x h ne = ends q s x (above_some f (map q).1 (s, x) (sym (ap (λ (r : Record). r.1) (new q)) ∙ h)) ne

-- a join
pub ends_joined : (least new : ℕ) (f : Option Moment) (map other map' : List ℕ → Record) → EndsFrom least map → new ≤ least → EndsFrom new other → ((q : List ℕ) → map' q ≡ above_both f (record_joined (map q) (other q))) → EndsFrom new map'
ends_joined least new f map other map' ends le more is q s x h ne = elim (joined_ends f (map q) (other q) (s, x) (sym (ap (λ (r : Record). r.1) (is q)) ∙ h)) [
  | inl o ↦ let a = ends q s x o ne in omega (arith, a, le)
  | inr o ↦ more q s x o ne
]

-- ---- records one after the other
pub end_less : (least new : ℕ) (e : List ℕ × Rec) → new ≤ least → EndFrom least e → EndFrom new e
end_less least new e le ends s x h ne = let a = ends s x h ne in omega (arith, a, le)

-- one record more
pub end_more : (least new : ℕ) (records : List (List ℕ × Rec)) (i : ℕ) (e : List ℕ × Rec) → i < length records → e ≡ get_or records i e → new ≤ least → All (EndFrom least) (take i records) → EndFrom new e → All (EndFrom new) (take (i + 1) records)
end_more least new records i e lt at le all own =
    subst (λ es. All (EndFrom new) es) (sym (take_more records i e lt))
    (All-append (EndFrom new) (take i records) (get_or records i e ∷ []) (λ k d in_range. end_less least new (get_or (take i records) k d) le (all k d in_range)) (All-cons (EndFrom new) (get_or records i e) [] (subst (λ x. EndFrom new x) at own) (λ k d in_range. absurd (omega (arith, in_range)))))

pub end_next : (least expiry : ℕ) (e : List ℕ × Rec) (st : Moment) → (rec_means e.1).1 ≡ Some (st, expiry) → EndFrom (earlier_of least expiry) e
end_next least expiry e st is s x h ne = let same = same_expiry st s expiry x (sym is ∙ h) in let nz : expiry ≢ 0 = λ z. ne (sym same ∙ z) in subst (λ n. earlier_of least expiry ≤ n) same (earlier_own least expiry nz)

pub end_none : (least : ℕ) (e : List ℕ × Rec) → (rec_means e.1).1 ≡ None → EndFrom least e
end_none least e is s x h ne = absurd (some_none (sym h ∙ is))

-- what is listed at a key has an expiry of one of the records
pub listed_ends : (least : ℕ) (records : List (List ℕ × Rec)) → All (EndFrom least) records → EndsFrom least (listed_at records)
listed_ends least [] all q s x h ne = absurd (some_none (sym h))
listed_ends least (r ∷ records) all q s x h ne = by (same_key q r.0) (λ o. listed_ends least records (λ k d lt. all (suc k) d (omega (arith, lt))) q s x o ne) h
  where
    by : (t : Bool) → ((listed_at records q).1 ≡ Some (s, x) → least ≤ x) → (cond {A = Record} t (record_joined (rec_means r.1) (listed_at records q)) (listed_at records q)).1 ≡ Some (s, x) → least ≤ x
    by true rest h = elim (newer_some (by_both stamp_cmp nat_cmp) (rec_means r.1).1 (listed_at records q).1 (s, x) h) [
      | inl o ↦ all 0 r (omega arith) s x o ne
      | inr o ↦ rest o
    ]
    by false rest h = rest h

-- what is not before the earliest is not to be reaped
pub early_kept : (least before reap now number : ℕ) (map : List ℕ → Record) → EndsFrom least map → before ≤ least → before + reap ≡ now → (q : List ℕ) → is_reapable number reap now (version_in (map q)) ≡ false
early_kept least before reap now number map ends le is q = by (map q) refl
  where
    never : (e : ℕ) (s : Moment) → (map q).1 ≡ Some (s, e) → not (e == 0) && nat_lt (e + reap) now ≡ false
    never e s h = elim (eqb_tells e 0) [
      | inl p ↦ ap (λ t. not t && nat_lt (e + reap) now) p.0
      | inr p ↦
          let low = ends q s e h p.1 in
          let no : nat_lt (e + reap) now ≡ false = grind (arith, nat_tests) in
          ap (λ t. not t && nat_lt (e + reap) now) p.0 ∙ no
    ]

    and_none : (a b c : Bool) → b && c ≡ false → a && b && c ≡ false
    and_none true b c h = h
    and_none false b c h = refl

    by : (r : Record) → map q ≡ r → is_reapable number reap now (version_in r) ≡ false
    by (None, x) h = refl
    by (Some (s, Gone), x) h = refl
    by (Some (s, Value d f l), None) h = and_none (s.site == number) false (nat_lt (0 + reap) now) refl
    by (Some (s, Value d f l), Some (t, e)) h = and_none (s.site == number) (not (e == 0)) (nat_lt (e + reap) now) (never e t (ap (λ (r : Record). r.1) h))

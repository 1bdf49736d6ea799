-- Records cut at a floor, as the code joins them.
use Rattle.std.proofs.Common.{◌≡◌, Bool, true, false, cond, Option, None, Some, refl, sym, ap, ◌∙◌, List, [], ◌∷◌, ℕ}
use Rattle.std.specs.Ordering.{nat_cmp}
use Rattle.std.specs.Cmp.Lexicographic.{nat_list_eq_equiv}
use Rattle.geo_laws.specs.Registers.{by_both}
use Rattle.std.specs.Option.{option_and_then}
use Rattle.geo_maps.specs.Maps.{meaning_or, all_joined}
use Rattle.geo_stamp.specs.Stamps.{Moment, stamp_cmp}
use Rattle.geo_records.proofs.Above.{newer_none, above_both_joined, above_both_twice, joined_above}
use Rattle.geo_records.specs.Bodies.{body_cmp}
use Rattle.geo_records.specs.Keys.{same_key}
use Rattle.geo_records.specs.Operations.{Record, above, above_both, is_above, record_joined}
use Rattle.geo_versions.specs.Records.{Rec, rec_means, rec_above, listed_at}
use Rattle.geo_records.specs.declared.body.Body.{Body}

empty_joined : (r : Record) → record_joined r (None, None) ≡ r
empty_joined r = λ i. (newer_none (by_both stamp_cmp body_cmp) r.0 i, newer_none (by_both stamp_cmp nat_cmp) r.1 i)

-- one record is joined at a key
module _ (f : Option Moment) (old new : List ℕ → Record) (k : List ℕ) (x : Record) (normal : (q : List ℕ) → ◌≡◌ {A = Record} (above_both f (old q)) (old q)) where
  pub one_joined_normal : above_both f x ≡ x → ((q : List ℕ) → new q ≡ cond {A = Record} (same_key k q) (record_joined (old q) x) (old q)) → (q : List ℕ) → ◌≡◌ {A = Record} (above_both f (new q)) (new q)
  one_joined_normal above is q = ap (above_both f) (is q) ∙ by (same_key k q) ∙ sym (is q)
    where
      by : (b : Bool) → ◌≡◌ {A = Record} (above_both f (cond {A = Record} b (record_joined (old q) x) (old q))) (cond {A = Record} b (record_joined (old q) x) (old q))
      by true = joined_above f (old q) x (normal q) above
      by false = normal q

  pub one_joined_is : above_both f x ≡ x → ((q : List ℕ) → new q ≡ cond {A = Record} (same_key k q) (record_joined (old q) x) (old q)) → (q : List ℕ) → new q ≡ cond {A = Record} (same_key q k) (above_both f (record_joined (old q) x)) (old q)
  one_joined_is above is q = is q ∙ ap (λ b. cond {A = Record} b (record_joined (old q) x) (old q)) (nat_list_eq_equiv.symm k q) ∙ ap (λ r. cond {A = Record} (same_key q k) r (old q)) (sym (joined_above f (old q) x (normal q) above))

  pub none_joined_is : above_both f x ≡ (None, None) → (q : List ℕ) → old q ≡ cond {A = Record} (same_key q k) (above_both f (record_joined (old q) x)) (old q)
  none_joined_is below q = by (same_key q k)
    where
      same : ◌≡◌ {A = Record} (above_both f (record_joined (old q) x)) (old q)
      same = above_both_joined f (old q) x ∙ (λ i. record_joined (normal q i) (below i)) ∙ empty_joined (old q)

      by : (b : Bool) → old q ≡ cond {A = Record} b (above_both f (record_joined (old q) x)) (old q)
      by true = sym same
      by false = refl

-- registers of one stamp are above the floor where the stamp is
pub write_above : (f : Option Moment) (s : Moment) (b : Body) (e : ℕ) → is_above f s ≡ true → above_both f (Some (s, b), Some (s, e)) ≡ (Some (s, b), Some (s, e))
write_above f s b e h = λ i. (cond (h i) (Some (s, b)) None, cond (h i) (Some (s, e)) None)

pub write_below : (f : Option Moment) (s : Moment) (b : Body) (e : ℕ) → is_above f s ≡ false → above_both f (Some (s, b), Some (s, e)) ≡ (None, None)
write_below f s b e h = λ i. (cond (h i) (Some (s, b)) None, cond (h i) (Some (s, e)) None)

pub touch_above : (f : Option Moment) (s : Moment) (e : ℕ) → is_above f s ≡ true → ◌≡◌ {A = Record} (above_both f (None, Some (s, e))) (None, Some (s, e))
touch_above f s e h = λ i. (None, cond (h i) (Some (s, e)) None)

pub touch_below : (f : Option Moment) (s : Moment) (e : ℕ) → is_above f s ≡ false → ◌≡◌ {A = Record} (above_both f (None, Some (s, e))) (None, None)
touch_below f s e h = λ i. (None, cond (h i) (Some (s, e)) None)

-- what the code's records mean, cut at a floor
pub changed_above : (f : Option Moment) (o : Option Rec) → meaning_or (None, None) (λ (r : Rec). rec_means (rec_above f r)) o ≡ above_both f (meaning_or (None, None) rec_means o)
changed_above f None = refl
changed_above f (Some r) = refl

pub listed_above : (f : Option Moment) (es : List (List ℕ × Rec)) (q : List ℕ) → all_joined {V = Rec} {M = Record} (None, None) (λ r. rec_means (rec_above f r)) record_joined same_key es q ≡ above_both f (listed_at es q)
listed_above f [] q = refl
listed_above f (e ∷ es) q = by (same_key q e.0) (listed_above f es q)
  where
    rest : Record
    rest = all_joined {V = Rec} {M = Record} (None, None) (λ r. rec_means (rec_above f r)) record_joined same_key es q

    by : (b : Bool) → ◌≡◌ {A = Record} (all_joined {V = Rec} {M = Record} (None, None) (λ r. rec_means (rec_above f r)) record_joined same_key es q) (above_both f (listed_at es q))
        → ◌≡◌ {A = Record} (cond {A = Record} b (record_joined (rec_means (rec_above f e.1)) (all_joined {V = Rec} {M = Record} (None, None) (λ r. rec_means (rec_above f r)) record_joined same_key es q)) (all_joined {V = Rec} {M = Record} (None, None) (λ r. rec_means (rec_above f r)) record_joined same_key es q))
        (above_both f (cond {A = Record} b (record_joined (rec_means e.1) (listed_at es q)) (listed_at es q)))
    by true h = ap (record_joined (rec_means (rec_above f e.1))) h ∙ sym (above_both_joined f (rec_means e.1) (listed_at es q))
    by false h = h

-- records are joined at a floor that stays, and at one that rises
pub joined_at_floor : (f : Option Moment) (old new listed cut : Record) → above_both f old ≡ old → cut ≡ above_both f listed → new ≡ record_joined old cut → new ≡ above_both f (record_joined old listed)
joined_at_floor f old new listed cut normal is joined = joined ∙ ap (record_joined old) is ∙ ap (λ r. record_joined r (above_both f listed)) (sym normal) ∙ sym (above_both_joined f old listed)

pub joined_at_rise : (f : Option Moment) (old mid new listed cut : Record) → cut ≡ above_both f listed → mid ≡ record_joined old cut → new ≡ above_both f mid → new ≡ above_both f (record_joined old listed)
joined_at_rise f old mid new listed cut is joined above =
    above ∙ ap (above_both f) (joined ∙ ap (record_joined old) is) ∙ above_both_joined f old (above_both f listed)
    ∙ ap (record_joined (above_both f old)) (above_both_twice f listed) ∙ sym (above_both_joined f old listed)

pub cut_normal : (f : Option Moment) (old new : Record) → new ≡ above_both f old → above_both f new ≡ new
cut_normal f old new is = ap (above_both f) is ∙ above_both_twice f old ∙ sym is

pub shown_above : (f : Option Moment) (o : Option Rec) → meaning_or (None, None) rec_means (option_and_then (λ (r : Rec). Some (rec_above f r)) o) ≡ above_both f (meaning_or (None, None) rec_means o)
shown_above f None = refl
shown_above f (Some r) = refl

-- a record covers another above its floor where joining the two at that floor changes nothing
pub covered_above : (f : Option Moment) (a b cut : Record) → above_both f a ≡ a → cut ≡ above_both f b → record_joined a cut ≡ above_both f (record_joined a b)
covered_above f a b cut normal is = ap (record_joined a) is ∙ ap (λ r. record_joined r (above_both f b)) (sym normal) ∙ sym (above_both_joined f a b)

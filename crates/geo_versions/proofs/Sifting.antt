-- What a removal leaves of records, and what a take leaves out of them.
use Rattle.std.proofs.Common.{◌≡◌, ◌&&◌, ℕ, Bool, true, false, cond, List, [], ◌∷◌, Option, None, Some, refl, ap, ◌∙◌, subst}
use Rattle.std.specs.List.Retain.{RetainsInTurn}
use Rattle.geo_maps.specs.Maps.{meaning_or}
use Rattle.geo_stamp.specs.Stamps.{Moment}
use Rattle.geo_records.specs.Operations.{Record, above_both}
use Rattle.geo_versions.specs.Records.{Rec, rec_means, rec_recent, rec_remaining, has_register, sifted, is_over, remaining}

module _ {F : Type 0} (T : F → (List ℕ × Rec) → Bool → F → (List ℕ × Rec) → Type 0) (h : ℕ) (f : F)
    (says : (e : List ℕ × Rec) (b : Bool) (g : F) (d : List ℕ × Rec) → T f e b g d → (d ≡ (e.0, rec_recent h e.1)) × ((b ≡ has_register (rec_means d.1)) × (g ≡ f))) where
  pub sifted_left : (es kept : List (List ℕ × Rec)) → RetainsInTurn T f es kept → kept ≡ sifted h es
  sifted_left [] kept left = left
  sifted_left (e ∷ es) kept left =
      let s = says e left.0 left.1 left.2 left.3 in
      let later = sifted_left es left.4 (subst (λ g. RetainsInTurn T g es left.4) s.1.1 left.5) in
      let stays : left.0 ≡ has_register (rec_means (rec_recent h e.1)) = s.1.0 ∙ ap (λ (d : List ℕ × Rec). has_register (rec_means d.1)) s.0 in
      left.6 ∙ (λ i. cond (stays i) (s.0 i ∷ later i) (later i))

-- what the records of a map mean after a removal
pub remaining_at : (h : ℕ) (o : Option Rec) → meaning_or (None, None) (λ v. rec_means (rec_remaining h v)) o ≡ remaining h (meaning_or (None, None) rec_means o)
remaining_at h None = refl
remaining_at h (Some r) = by (is_over h (rec_means r))
  where
    by : (b : Bool) → rec_means (cond b (record { left = record { register = None }; right = record { register = None } }) r) ≡ cond {A = Record} b (None, None) (rec_means r)
    by true = refl
    by false = refl

-- the same of what is dropped where it is over
pub left_at : (h : ℕ) (o : Option Rec) → meaning_or (None, None) (λ v. cond {A = Record} (has_register (rec_means v) && is_over h (rec_means v)) (None, None) (rec_means v)) o ≡ remaining h (meaning_or (None, None) rec_means o)
left_at h None = refl
left_at h (Some r) = by (rec_means r) (is_over h (rec_means r)) refl
  where
    by : (r : Record) (t : Bool) → is_over h r ≡ t → cond {A = Record} (has_register r && t) (None, None) r ≡ cond {A = Record} t (None, None) r
    by (None, None) true e = refl
    by (None, None) false e = refl
    by (Some b, e) t p = refl
    by (None, Some e) t p = refl

-- of what was above a floor, what is left is
pub remaining_above : (floor : Option Moment) (h : ℕ) (r : Record) → above_both floor r ≡ r → above_both floor (remaining h r) ≡ remaining h r
remaining_above floor h r e = by (is_over h r)
  where
    by : (b : Bool) → above_both floor (cond {A = Record} b (None, None) r) ≡ cond {A = Record} b (None, None) r
    by true = refl
    by false = e

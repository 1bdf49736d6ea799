-- Which records of some keys a vector does not know, key by key.
use Rattle.std.proofs.Common.{◌≡◌, ℕ, Bool, true, false, cond, ◌||◌, List, [], ◌∷◌, ◌++◌, Option, None, Some, refl, sym, ap, ◌∙◌, true≢false, IfSome}
use Rattle.std.specs.Ordering.{nat_cmp}
use Rattle.std.specs.declared.cmp.Ordering.TheVariants.{Less}
use Rattle.std.specs.Cmp.Lexicographic.{slice_cmp}
use Rattle.std.specs.List.{All, AllByRecursion, list_any}
use Rattle.std.specs.List.Sorted.{IsStrictlySortedBy}
use Rattle.std.proofs.lemmas.List.Elements.{All-nil, All-cons}
use Rattle.std.proofs.lemmas.Map.Keys.{sorted_head, sorted_tail}
use Rattle.geo_maps.specs.Maps.{meaning_or}
use Rattle.geo_maps.proofs.Listing.{before}
use Rattle.geo_records.proofs.Above.{joined_none, record_same}
use Rattle.geo_records.specs.Keys.{same_key}
use Rattle.geo_records.specs.Operations.{Record, record_joined}
use Rattle.geo_versions.specs.Records.{Rec, rec_means, is_unknown, since, listed_at, Above, Rising}
use Rattle.std.specs.Cmp.Lexicographic.{same_text}

-- a vector does not know all of a record
abbrev pub is_news : List ℕ → Record → Bool
is_news base r = is_unknown base r.0 || is_unknown base r.1

abbrev pub rec_of : Record → Rec
rec_of r = record { left = record { register = r.0 }; right = record { register = r.1 } }

abbrev pub news_in : List ℕ → Record → Option Rec
news_in base r = cond (is_news base r) (Some (rec_of r)) None

abbrev pub news : List ℕ → (List ℕ → Record) → List (List ℕ) → List (List ℕ × Rec)
news base map [] = []
news base map (k ∷ ks) = before k (news_in base (map k)) (news base map ks)

empty_is_known : (base : List ℕ) (r : Record) → r ≡ (None, None) → is_news base r ≡ false
empty_is_known base r e = ap (is_news base) e

-- what is found of a record is its news
pub found_is_news : (base : List ℕ) (r : Record) (o : Option Rec) → meaning_or (None, None) rec_means o ≡ since base r → IfSome o (λ v. rec_means v ≡ (None, None) → ⊥) → o ≡ news_in base r
found_is_news base r o means filled = by (is_news base r) refl o means filled
  where
    by : (t : Bool) → is_news base r ≡ t → (o : Option Rec) → meaning_or (None, None) rec_means o ≡ cond {A = Record} t r (None, None) → IfSome o (λ v. rec_means v ≡ (None, None) → ⊥) → o ≡ cond t (Some (rec_of r)) None
    by true e None m f = absurd (true≢false (sym e ∙ empty_is_known base r (sym m)))
    by true e (Some v) m f = ap (λ (s : Record). Some (rec_of s)) m
    by false e None m f = refl
    by false e (Some v) m f = absurd (f m)

module _ (base : List ℕ) (map : List ℕ → Record) where
  before_append : (k : List ℕ) (o : Option Rec) (xs ys : List (List ℕ × Rec)) → before k o (xs ++ ys) ≡ before k o xs ++ ys
  before_append k None xs ys = refl
  before_append k (Some w) xs ys = refl

  news_append : (ks : List (List ℕ)) (k : List ℕ) → news base map (ks ++ k ∷ []) ≡ news base map ks ++ before k (news_in base (map k)) []
  news_append [] k = refl
  news_append (j ∷ ks) k = ap (before j (news_in base (map j))) (news_append ks k) ∙ before_append j (news_in base (map j)) (news base map ks) (before k (news_in base (map k)) [])

  -- one more key, of which there is news or not
  pub one_more : (ks : List (List ℕ)) (k : List ℕ) (r : Rec) (all more : List (List ℕ × Rec)) → all ≡ news base map ks → more ≡ all ++ (k, r) ∷ [] → Some r ≡ news_in base (map k) → more ≡ news base map (ks ++ k ∷ [])
  one_more ks k r all more is pushed found = pushed ∙ ap (λ xs. xs ++ (k, r) ∷ []) is ∙ ap (λ o. news base map ks ++ before k o []) found ∙ sym (news_append ks k)

  pub none_more : (ks : List (List ℕ)) (k : List ℕ) (all : List (List ℕ × Rec)) → all ≡ news base map ks → None ≡ news_in base (map k) → all ≡ news base map (ks ++ k ∷ [])
  none_more ks k all is none = is ∙ nothing (news base map ks) ∙ ap (λ o. news base map ks ++ before k o []) none ∙ sym (news_append ks k)
    where
      nothing : (xs : List (List ℕ × Rec)) → xs ≡ xs ++ []
      nothing [] = refl
      nothing (x ∷ xs) = ap (λ ys. x ∷ ys) (nothing xs)

  -- by rising key
  above_news : (k : List ℕ) (ks : List (List ℕ)) → AllByRecursion (λ j. slice_cmp nat_cmp k j ≡ Less) ks → Above k (news base map ks)
  above_news k [] less = tt
  above_news k (j ∷ ks) less = by (news_in base (map j)) (above_news k ks less.1)
    where
      by : (o : Option Rec) → Above k (news base map ks) → Above k (before j o (news base map ks))
      by None above = above
      by (Some r) above = less.0

  pub news_rise : (ks : List (List ℕ)) → IsStrictlySortedBy (slice_cmp nat_cmp) ks → Rising (news base map ks)
  news_rise [] sorted = tt
  news_rise (k ∷ ks) sorted = by (news_in base (map k)) (news_rise ks (sorted_tail (slice_cmp nat_cmp) k ks sorted))
    where
      by : (o : Option Rec) → Rising (news base map ks) → Rising (before k o (news base map ks))
      by None rising = rising
      by (Some r) rising = (above_news k ks (sorted_head (slice_cmp nat_cmp) k ks sorted), rising)

  -- none of them empty
  pub news_filled : (ks : List (List ℕ)) → All (λ (e : List ℕ × Rec). rec_means e.1 ≡ (None, None) → ⊥) (news base map ks)
  news_filled [] = All-nil (λ (e : List ℕ × Rec). rec_means e.1 ≡ (None, None) → ⊥)
  news_filled (k ∷ ks) = by (is_news base (map k)) refl (news_filled ks)
    where
      by : (t : Bool) → is_news base (map k) ≡ t → All (λ (e : List ℕ × Rec). rec_means e.1 ≡ (None, None) → ⊥) (news base map ks) → All (λ (e : List ℕ × Rec). rec_means e.1 ≡ (None, None) → ⊥) (before k (cond t (Some (rec_of (map k))) None) (news base map ks))
      by true e rest = All-cons (λ (e : List ℕ × Rec). rec_means e.1 ≡ (None, None) → ⊥) (k, rec_of (map k)) (news base map ks) (λ empty. true≢false (sym e ∙ empty_is_known base (map k) empty)) rest
      by false e rest = rest

  -- at a key that is among them, the record where it is news
  at_other : (k q : List ℕ) (o : Option Rec) (rest : List (List ℕ × Rec)) → same_key q k ≡ false → listed_at (before k o rest) q ≡ listed_at rest q
  at_other k q None rest miss = refl
  at_other k q (Some r) rest miss = ap (λ s. cond {A = Record} s (record_joined (rec_means r) (listed_at rest q)) (listed_at rest q)) miss

  at_own : (k q : List ℕ) (r : Record) (rest : List (List ℕ × Rec)) (t any : Bool) → same_key q k ≡ true → listed_at rest q ≡ cond {A = Record} any (cond {A = Record} t r (None, None)) (None, None)
      → listed_at (before k (cond t (Some (rec_of r)) None) rest) q ≡ cond {A = Record} t r (None, None)
  at_own k q r rest true true hit h = ap (λ s. cond {A = Record} s (record_joined r (listed_at rest q)) (listed_at rest q)) hit ∙ ap (record_joined r) h ∙ record_same r
  at_own k q r rest true false hit h = ap (λ s. cond {A = Record} s (record_joined r (listed_at rest q)) (listed_at rest q)) hit ∙ ap (record_joined r) h ∙ joined_none r
  at_own k q r rest false true hit h = h
  at_own k q r rest false false hit h = h

  pub news_at : (ks : List (List ℕ)) (q : List ℕ) → listed_at (news base map ks) q ≡ cond {A = Record} (list_any (same_key q) ks) (since base (map q)) (None, None)
  news_at [] q = refl
  news_at (k ∷ ks) q = by (same_key q k) refl (news_at ks q)
    where
      by : (s : Bool) → same_key q k ≡ s → listed_at (news base map ks) q ≡ cond {A = Record} (list_any (same_key q) ks) (since base (map q)) (None, None)
          → listed_at (before k (news_in base (map k)) (news base map ks)) q ≡ cond {A = Record} (s || list_any (same_key q) ks) (since base (map q)) (None, None)
      by true hit rest =
          let same : q ≡ k = same_text q k (sym hit) in
          ap (λ j. listed_at (before k (news_in base (map j)) (news base map ks)) q) (sym same) ∙ at_own k q (map q) (news base map ks) (is_news base (map q)) (list_any (same_key q) ks) hit rest
      by false miss rest = at_other k q (news_in base (map k)) (news base map ks) miss ∙ rest

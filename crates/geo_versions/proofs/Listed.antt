-- Lists of records by rising key.
use Rattle.std.proofs.Common.{◌≡◌, Bool, true, false, cond, ◌||◌, List, [], ◌∷◌, Option, None, Some, refl, sym, ap, ◌∙◌, ℕ, zero, suc, get_or, true≢false, is_some}
use Rattle.std.specs.Ordering.{nat_cmp}
use Rattle.std.specs.Cmp.Lexicographic.{slice_cmp, nat_list_eq_equiv}
use Rattle.std.specs.List.{IsDistinct, All, list_any}
use Rattle.std.specs.List.Sorted.{IsStrictlySortedBy}
use Rattle.std.specs.Map.{lookup, keys_of}
use Rattle.std.specs.Option.{option_and_then}
use Rattle.std.specs.Result.{OnOk, OnErr}
use Rattle.std.proofs.Common.{Result, Ok, Err}
use Rattle.std.proofs.lemmas.Map.Keys.{sorted_head, sorted_tail}
use Rattle.std.proofs.lemmas.Map.Entries.{lookup_from_place}
use Rattle.std.proofs.lemmas.Map.Made.{is_some-lookup}
use Rattle.geo_maps.specs.Maps.{meaning_or, EachFound}
use Rattle.geo_maps.proofs.Entries.{some_same, some_none, slice_get_from_get_or}
use Rattle.geo_maps.proofs.Listed.{all_joined_unique}
use Rattle.geo_records.specs.Keys.{same_key}
use Rattle.geo_records.specs.Operations.{Record, record_joined}
use Rattle.geo_versions.specs.Records.{Rec, rec_means, rec_since, since, is_unknown, listed_at, has_register, Rising}
use Rattle.geo_records.proofs.Above.{record_assoc, record_comm}

pub either_way : {T E P Q R : Type 0} (r : Result T E) → OnOk r P → OnErr r Q → (P → R) → (Q → R) → R
either_way (Ok x) p q f g = f p
either_way (Err e) p q f g = g q

pub rising_from_sorted : {V : Type 0} (es : List (List ℕ × V)) → IsStrictlySortedBy (slice_cmp nat_cmp) (keys_of es) → Rising es
rising_from_sorted [] h = tt
rising_from_sorted (e ∷ []) h = (tt, tt)
rising_from_sorted (e ∷ d ∷ es) h = ((sorted_head (slice_cmp nat_cmp) e.0 (keys_of (d ∷ es)) h).0, rising_from_sorted (d ∷ es) (sorted_tail (slice_cmp nat_cmp) e.0 (keys_of (d ∷ es)) h))

-- of records with keys apart, what is at a key is what a look-up finds
listed_unique : (es : List (List ℕ × Rec)) → IsDistinct same_key (keys_of es) → (q : List ℕ) → listed_at es q ≡ meaning_or (None, None) rec_means (lookup (same_key q) es)
listed_unique es unique q = all_joined_unique (None, None) rec_means record_joined record_assoc record_comm (λ _. refl) same_key nat_list_eq_equiv es unique q

since_one : (base : List ℕ) (o : Option Rec) → meaning_or (None, None) rec_means (option_and_then (rec_since base) o) ≡ since base (meaning_or (None, None) rec_means o)
since_one base None = refl
since_one base (Some r) = by (is_unknown base r.left.register || is_unknown base r.right.register)
  where
    by : (t : Bool) → meaning_or (None, None) rec_means (cond t (Some r) None) ≡ cond {A = Record} t (rec_means r) (None, None)
    by true = refl
    by false = refl

pub listed_since : (base : List ℕ) (es : List (List ℕ × Rec)) (o : List ℕ → Option Rec) → IsDistinct same_key (keys_of es) → ((q : List ℕ) → lookup (same_key q) es ≡ option_and_then (rec_since base) (o q))
    → (q : List ℕ) → listed_at es q ≡ since base (meaning_or (None, None) rec_means (o q))
listed_since base es o unique shown q = listed_unique es unique q ∙ ap (meaning_or (None, None) rec_means) (shown q) ∙ since_one base (o q)

news_filled : (base : List ℕ) (o : Option Rec) (r : Rec) → option_and_then (rec_since base) o ≡ Some r → rec_means r ≡ (None, None) → ⊥
news_filled base None r h e = some_none (sym h)
news_filled base (Some v) r h e = by (is_unknown base v.left.register || is_unknown base v.right.register) refl h
  where
    none_unknown : (s : Record) → s ≡ (None, None) → (is_unknown base s.0 || is_unknown base s.1) ≡ false
    none_unknown s p = ap (λ (s : Record). is_unknown base s.0 || is_unknown base s.1) p

    by : (t : Bool) → (is_unknown base v.left.register || is_unknown base v.right.register) ≡ t → cond t (Some v) None ≡ Some r → ⊥
    by true p q = true≢false (sym p ∙ none_unknown (rec_means v) (ap rec_means (some_same q) ∙ e))
    by false p q = some_none (sym q)

get_or_again : {A : Type 0} (xs : List A) (k : ℕ) (d : A) → get_or xs k (get_or xs k d) ≡ get_or xs k d
get_or_again [] k d = refl
get_or_again (x ∷ xs) zero d = refl
get_or_again (x ∷ xs) (suc k) d = get_or_again xs k d

pub all_filled : (base : List ℕ) (es : List (List ℕ × Rec)) (o : List ℕ → Option Rec) → IsDistinct same_key (keys_of es) → ((q : List ℕ) → lookup (same_key q) es ≡ option_and_then (rec_since base) (o q))
    → All (λ (e : List ℕ × Rec). rec_means e.1 ≡ (None, None) → ⊥) es
all_filled base es o unique shown k d lt =
    let e = get_or es k d in
    news_filled base (o e.0) e.1 (sym (shown e.0) ∙ lookup_from_place nat_list_eq_equiv es k e.0 e.1 unique (slice_get_from_get_or es k e lt (get_or_again es k d)))

-- a key is there exactly where it has a register, since no record is empty
register_there : {B E : Type 0} (b : Option B) (e : Option E) → (◌≡◌ {A = Option B × Option E} (b, e) (None, None) → ⊥) → (is_some b || is_some e) ≡ true
register_there None None h = absurd (h refl)
register_there None (Some e) h = refl
register_there (Some b) e h = refl

pub there_has_register : (es : List (List ℕ × Rec)) → EachFound (λ (r : Rec). rec_means r ≡ (None, None) → ⊥) same_key es → (q : List ℕ) → list_any (same_key q) (keys_of es) ≡ has_register (meaning_or (None, None) rec_means (lookup (same_key q) es))
there_has_register es filled q = sym (is_some-lookup (same_key q) es) ∙ by (lookup (same_key q) es) refl
  where
    by : (o : Option Rec) → lookup (same_key q) es ≡ o → is_some o ≡ has_register (meaning_or (None, None) rec_means o)
    by None found = refl
    by (Some r) found = sym (register_there r.left.register r.right.register (filled q r found))

-- where all records are listed, what is at a key is what is listed
whole_one : (o : Option Rec) → option_and_then (λ r. Some r) o ≡ o
whole_one None = refl
whole_one (Some r) = refl

pub listed_whole : (es : List (List ℕ × Rec)) (o : List ℕ → Option Rec) → IsDistinct same_key (keys_of es) → ((q : List ℕ) → lookup (same_key q) es ≡ option_and_then (λ r. Some r) (o q))
    → (q : List ℕ) → listed_at es q ≡ meaning_or (None, None) rec_means (o q)
listed_whole es o unique shown q = listed_unique es unique q ∙ ap (meaning_or (None, None) rec_means) (shown q ∙ whole_one (o q))

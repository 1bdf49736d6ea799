-- What a map means once values that pass a test were dropped.
use Rattle.std.proofs.Common.{◌≡◌, Bool, true, false, cond, List, Option, None, Some, refl, sym, ap, ◌∙◌, ℕ, zero, suc, ◌<◌, ◌≤◌, ◌⊎◌, inl, inr, length, arith, slice_get, IfSome, IsSomeAnd}
use Rattle.std.specs.Cmp.{IsEquivalence}
use Rattle.std.specs.Map.{lookup}
use Rattle.std.specs.HashMap.Eq.{lookup_congr}
use Rattle.geo_maps.specs.Maps.{meaning_or, IsColumn, EachOf, SwappedOut}
use Rattle.geo_maps.proofs.Entries.{each_found}

below_or_not : (j n : ℕ) → (j < n) ⊎ (n ≤ j)
below_or_not zero zero = inr (omega arith)
below_or_not zero (suc n) = inl (omega arith)
below_or_not (suc j) zero = inr (omega arith)
below_or_not (suc j) (suc n) = elim (below_or_not j n) [ inl l ↦ inl (omega (arith, l)) | inr l ↦ inr (omega (arith, l)) ]

-- what a column says of the measures between two places holds of the values there
pub between : {K V : Type 0} (measured : V → ℕ) (es : List (K × V)) (cs : List ℕ) (P : V → Type 0) (Q : ℕ → Type 0) (from to : ℕ) → IsColumn measured es cs
    → ((j : ℕ) → from ≤ j → j < to → IsSomeAnd (slice_get cs j) Q) → ((v : V) (m : ℕ) → Q m → m ≡ measured v → P v) → EachOf (λ (k : K) v. P v) es from → EachOf (λ (k : K) v. P v) es to
between {K} {V} measured es cs P Q from to column say then before j k v lt at = by (below_or_not j from)
  where
    noted : (o : Option ℕ) → slice_get cs j ≡ o → IsSomeAnd o Q → P v
    noted None is h = absurd h
    noted (Some m) is h = then v m h (column j k v m at is)

    by : (j < from) ⊎ (from ≤ j) → P v
    by (inl l) = before j k v l at
    by (inr l) = noted (slice_get cs j) refl (say j l lt)

pub not_low : (passes : Bool) (measured most m : ℕ) → (passes ≡ true → measured ≤ most) → most < m → m ≡ measured → passes ≡ false
not_low true measured most m low high is = let l = low refl in absurd (omega (arith, l, high, is))
not_low false measured most m low high is = refl

-- what stood before the place of what was taken out stands there still
pub stays : {K V : Type 0} (P : V → Type 0) (es es' : List (K × V)) (i last : ℕ) → SwappedOut es es' i last → EachOf (λ (k : K) v. P v) es i → EachOf (λ (k : K) v. P v) es' i
stays P es es' i last swapped each j k v lt at = each j k v lt (swapped.others j (k, v) (λ e. omega (arith, lt, e)) at)

-- what a value means that is dropped where it passes
abbrev pub kept : {V M : Type 0} → M → (V → M) → (V → Bool) → V → M
kept z mean passing v = cond (passing v) z (mean v)

module _ {K V M : Type 0} (z : M) (mean : V → M) (passing : V → Bool) where
  -- where none passes any more, nothing is left out
  pub none_left : (es : List (K × V)) (n : ℕ) → length es ≤ n → EachOf (λ (k : K) v. passing v ≡ false) es n → (test : K → Bool) → meaning_or z mean (lookup test es) ≡ meaning_or z (kept z mean passing) (lookup test es)
  none_left es n long each test = by (lookup test es) (each_found (λ v. passing v ≡ false) es n long each test)
    where
      by : (o : Option V) → IfSome o (λ v. passing v ≡ false) → meaning_or z mean o ≡ meaning_or z (kept z mean passing) o
      by None h = refl
      by (Some v) h = ap (λ b. cond b z (mean v)) (sym h)

  -- one that passes is dropped
  pub one_dropped : (eq : K → K → Bool) → IsEquivalence eq → (es es' : List (K × V)) (k : K) (v : V) → passing v ≡ true → lookup (eq k) es ≡ Some v → ((q : K) → lookup (eq q) es' ≡ cond (eq k q) None (lookup (eq q) es))
      → (q : K) → meaning_or z (kept z mean passing) (lookup (eq q) es') ≡ meaning_or z (kept z mean passing) (lookup (eq q) es)
  one_dropped eq laws es es' k v passes found dropped q = ap (meaning_or z (kept z mean passing)) (dropped q) ∙ by (eq k q) refl
    where
      by : (b : Bool) → eq k q ≡ b → meaning_or z (kept z mean passing) (cond b None (lookup (eq q) es)) ≡ meaning_or z (kept z mean passing) (lookup (eq q) es)
      by true same = sym (ap (meaning_or z (kept z mean passing)) (sym (lookup_congr eq laws.congr es k q same) ∙ found) ∙ ap (λ b. cond b z (mean v)) passes)
      by false same = refl

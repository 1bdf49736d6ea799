-- Entries by their places, and a column beside them.
use Rattle.std.proofs.Common.{◌≡◌, Bool, true, false, cond, List, [], ◌∷◌, ◌++◌, Option, None, Some, refl, sym, ap, ◌∙◌, subst, ℕ, zero, suc, ◌<◌, ◌≤◌, ◌⊎◌, inl, inr, length, arith, slice_get, IfSome, IsSomeAnd, MatchOption, is_some, get_or, position, nat_lt, ◌&&◌, ◌+◌, true≢false}
use Rattle.std.proofs.lemmas.Bool.Decides.{nat_tests}
use Rattle.std.proofs.lemmas.Bool.{cases_eq}
use Rattle.std.proofs.lemmas.List.Quantifiers.{position-Some}
use Rattle.std.proofs.lemmas.Map.Entries.{lookup_from_place}
use Rattle.std.specs.Cmp.{IsEquivalence}
use Rattle.std.specs.Map.{lookup, keys_of, values_of}
use Rattle.std.specs.HashMap.Eq.{lookup_congr}
use Rattle.indexmap.specs.IndexMap.{IndexMap, IsUnique, set_value_at}
use Rattle.indexmap.proofs.CallerLemmas.{updates-with_value_at}
use Rattle.geo_maps.specs.Maps.{meaning_or, StandsAt, OthersStand, IsColumn, EachOf}
use Rattle.geo_maps.proofs.Entries.{some_none, some_same}

-- a value that is written at a place changes no other
pub others_set : {K V : Type 0} (es : List (K × V)) (i : ℕ) (w : V) → OthersStand es (set_value_at es i w) i
others_set [] i w j ne = refl
others_set (e ∷ es) zero w zero ne = absurd (ne refl)
others_set (e ∷ es) zero w (suc j) ne = refl
others_set (e ∷ es) (suc i) w zero ne = refl
others_set (e ∷ es) (suc i) w (suc j) ne = others_set es i w j (λ h. ne (ap suc h))

-- and stands there then
pub own_set : {K V : Type 0} (es : List (K × V)) (i : ℕ) (w : V) (e : K × V) → slice_get (set_value_at es i w) i ≡ Some e → e.1 ≡ w
own_set [] i w e h = absurd (some_none (sym h))
own_set (d ∷ es) zero w e h = ap (λ x. x.1) (sym (some_same h))
own_set (d ∷ es) (suc i) w e h = own_set es i w e h

-- an entry that is put behind the others changes none
pub others_push : {A : Type 0} (es : List A) (e : A) → OthersStand es (es ++ e ∷ []) (length es)
others_push [] e zero ne = absurd (ne refl)
others_push [] e (suc j) ne = refl
others_push (d ∷ es) e zero ne = refl
others_push (d ∷ es) e (suc j) ne = others_push es e j (λ h. ne (ap suc h))

pub own_push : {A : Type 0} (es : List A) (e d : A) → slice_get (es ++ e ∷ []) (length es) ≡ Some d → d ≡ e
own_push [] e d h = sym (some_same h)
own_push (x ∷ es) e d h = own_push es e d h

pub value_at : {K V : Type 0} (es : List (K × V)) (i : ℕ) (e : K × V) → slice_get es i ≡ Some e → slice_get (values_of es) i ≡ Some e.1
value_at [] i e h = absurd (some_none (sym h))
value_at (d ∷ es) zero e h = ap (λ x. Some x.1) (some_same h)
value_at (d ∷ es) (suc i) e h = value_at es i e h

-- where one entry changed, and beside it its measure was set, the column is one
pub column_after : {K V : Type 0} (measured : V → ℕ) (es es' : List (K × V)) (cs cs' : List ℕ) (i : ℕ) → IsColumn measured es cs → OthersStand es es' i → OthersStand cs cs' i
    → ((e : K × V) → slice_get es' i ≡ Some e → IfSome (slice_get cs' i) (λ m. m ≡ measured e.1)) → IsColumn measured es' cs'
column_after measured es es' cs cs' i column entries others own j k v m at is = by (cases_eq j i)
  where
    by : (j ≡ i) ⊎ (j ≡ i → ⊥) → m ≡ measured v
    by (inl e) = subst (λ o. IfSome o (λ m. m ≡ measured v)) (subst (λ n. slice_get cs' n ≡ Some m) e is) (own (k, v) (subst (λ n. slice_get es' n ≡ Some (k, v)) e at))
    by (inr ne) = column j k v m (sym (entries j ne) ∙ at) (sym (others j ne) ∙ is)

-- a column after a value was written at a place
pub column_written : {K V : Type 0} (measured : V → ℕ) (es : List (K × V)) (cs cs' : List ℕ) (i : ℕ) (w : V) (n : ℕ) → IsColumn measured es cs → OthersStand cs cs' i → IfSome (slice_get cs' i) (λ m. m ≡ n) → n ≡ measured w
    → IsColumn measured (set_value_at es i w) cs'
column_written measured es cs cs' i w n column others own is =
    column_after measured es (set_value_at es i w) cs cs' i column (others_set es i w) others
    (λ e at. subst (λ x. IfSome (slice_get cs' i) (λ m. m ≡ x)) (is ∙ ap measured (sym (own_set es i w e at))) own)

module _ {K V S : Type 0} (eq : K → K → Bool) (laws : IsEquivalence eq) (m : IndexMap K V S) (unique : IsUnique eq m) (i : ℕ) (k : K) where
  standing : (o : Option (K × V)) → slice_get m.entries i ≡ o → IsSomeAnd o (λ e. eq k e.0 ≡ true) → (e : K × V) × (slice_get m.entries i ≡ Some e) × (eq k e.0 ≡ true)
  standing None at h = absurd h
  standing (Some e) at h = (e, at, h)

  -- the value where a key stands is what is found of it
  pub found_at : StandsAt eq m.entries i k → (v : V) → slice_get (values_of m.entries) i ≡ Some v → lookup (eq k) m.entries ≡ Some v
  found_at stands v at =
      let e = standing (slice_get m.entries i) refl stands in
      lookup_congr eq laws.congr m.entries k e.0.0 e.2 ∙ lookup_from_place laws m.entries i e.0.0 e.0.1 unique e.1 ∙ sym (value_at m.entries i e.0 e.1) ∙ at

  -- once it is written, it is found with what was written
  pub found_set : StandsAt eq m.entries i k → (w : V) (q : K) → lookup (eq q) (set_value_at m.entries i w) ≡ cond (eq k q) (Some w) (lookup (eq q) m.entries)
  found_set stands w q =
      let e = standing (slice_get m.entries i) refl stands in
      (updates-with_value_at m i w laws unique e.0.0 e.0.1 e.1).0 q ∙ ap (λ b. cond b (Some w) (lookup (eq q) m.entries)) (sym (laws.congr k e.0.0 q e.2))

  found_like : StandsAt eq m.entries i k → (v : V) → slice_get (values_of m.entries) i ≡ Some v → (q : K) → eq k q ≡ true → lookup (eq q) m.entries ≡ Some v
  found_like stands v at q same = sym (lookup_congr eq laws.congr m.entries k q same) ∙ found_at stands v at

  -- what a map means once a value was joined where its key stands
  module _ {M : Type 0} (z : M) (mean : V → M) (join : M → M → M) (stands : StandsAt eq m.entries i k) (v w : V) (x : M) (at : slice_get (values_of m.entries) i ≡ Some v) (is : mean w ≡ join (mean v) x) where
    pub joined_in : (q : K) → meaning_or z mean (lookup (eq q) (set_value_at m.entries i w)) ≡ cond (eq k q) (join (meaning_or z mean (lookup (eq q) m.entries)) x) (meaning_or z mean (lookup (eq q) m.entries))
    joined_in q = ap (meaning_or z mean) (found_set stands w q) ∙ by (eq k q) (lookup (eq q) m.entries) (found_like stands v at q)
      where
        by : (b : Bool) (o : Option V) → (b ≡ true → o ≡ Some v) → meaning_or z mean (cond b (Some w) o) ≡ cond b (join (meaning_or z mean o) x) (meaning_or z mean o)
        by true o h = is ∙ ap (λ p. join (meaning_or z mean p) x) (sym (h refl))
        by false o h = refl

    pub kept_in : (q : K) → is_some (lookup (eq q) (set_value_at m.entries i w)) ≡ is_some (lookup (eq q) m.entries)
    kept_in q = ap is_some (found_set stands w q) ∙ by (eq k q) (lookup (eq q) m.entries) (found_like stands v at q)
      where
        by : (b : Bool) (o : Option V) → (b ≡ true → o ≡ Some v) → is_some (cond b (Some w) o) ≡ is_some o
        by true o h = ap is_some (sym (h refl))
        by false o h = refl

module _ {K V : Type 0} (test : K → Bool) where
  keyed : (es : List (K × V)) (i : ℕ) (d : K) → i < length (keys_of es) → test (get_or (keys_of es) i d) ≡ true → IsSomeAnd (slice_get es i) (λ e. test e.0 ≡ true)
  keyed [] i d lt h = absurd (omega arith)
  keyed (e ∷ es) zero d lt h = h
  keyed (e ∷ es) (suc i) d lt h = keyed es i d (omega arith) h

  -- what a search for a key finds is where it stands
  first_stands : (es : List (K × V)) (i : ℕ) → position test (keys_of es) ≡ Some i → IsSomeAnd (slice_get es i) (λ e. test e.0 ≡ true)
  first_stands [] i h = absurd (some_none (sym h))
  first_stands (e ∷ es) i h = let at = position-Some test (keys_of (e ∷ es)) i e.0 h in keyed (e ∷ es) i e.0 at.0 at.1

  pub stands_where_found : (es : List (K × V)) (o : Option ℕ) → o ≡ position test (keys_of es) → is_some o ≡ is_some (lookup test es)
      → MatchOption o (is_some (lookup test es) ≡ false) (λ i. IsSomeAnd (slice_get es i) (λ e. test e.0 ≡ true) × (is_some (lookup test es) ≡ true))
  stands_where_found es None is some = sym some
  stands_where_found es (Some i) is some = (first_stands es i (sym is), sym some)

-- where nothing is found there is nothing
pub is_none : {A : Type 0} (o : Option A) → is_some o ≡ false → o ≡ None
is_none None h = refl
is_none (Some x) h = absurd (true≢false h)

-- a column after an entry was put behind the others
pub column_pushed : {K V : Type 0} (measured : V → ℕ) (es es' : List (K × V)) (k : K) (v : V) (cs cs' : List ℕ) (i n : ℕ) → es' ≡ es ++ (k, v) ∷ [] → i ≡ length es → n ≡ measured v → IsColumn measured es cs → OthersStand cs cs' i
    → IfSome (slice_get cs' i) (λ m. m ≡ n) → IsColumn measured es' cs'
column_pushed {K} {V} measured es es' k v cs cs' i n pushed at is column others own =
    column_after measured es es' cs cs' i column
    (subst (λ (xs : List (K × V)). OthersStand es xs i) (sym pushed) (subst (λ j. OthersStand es (es ++ (k, v) ∷ []) j) (sym at) (others_push es (k, v)))) others
    (λ e there. subst (λ x. IfSome (slice_get cs' i) (λ m. m ≡ x)) (is ∙ ap (λ (d : K × V). measured d.1) (sym (own_push es (k, v) e (subst (λ j. slice_get (es ++ (k, v) ∷ []) j ≡ Some e) at (subst (λ (xs : List (K × V)). slice_get xs i ≡ Some e) pushed there))))) own)

-- a value that is sought has a measure below a bound, and passes a test
module _ {K V : Type 0} (measured : V → ℕ) (bound : ℕ) (passing : V → Bool) (es : List (K × V)) (cs : List ℕ) (column : IsColumn measured es cs) where
  abbrev NotSought : K → V → Type 0
  NotSought k v = (nat_lt (measured v) bound && passing v) ≡ false

  too_great : (v : V) (m : ℕ) → bound ≤ m → m ≡ measured v → (nat_lt (measured v) bound && passing v) ≡ false
  too_great v m le is = let no : nat_lt (measured v) bound ≡ false = (let l : bound ≤ measured v = omega (arith, le, is) in grind (arith, nat_tests, l)) in ap (λ b. b && passing v) no

  -- none is between two places where the column has no low measure
  pub none_between : (from to : ℕ) → ((j : ℕ) → from ≤ j → j < to → IsSomeAnd (slice_get cs j) (λ m. bound ≤ m)) → EachOf (λ k v. (nat_lt (measured v) bound && passing v) ≡ false) es from → EachOf (λ k v. (nat_lt (measured v) bound && passing v) ≡ false) es to
  none_between from to high each j k v lt at = by (order j from)
    where
      order : (j n : ℕ) → (j < n) ⊎ (n ≤ j)
      order zero zero = inr (omega arith)
      order zero (suc n) = inl (omega arith)
      order (suc j) zero = inr (omega arith)
      order (suc j) (suc n) = elim (order j n) [ inl l ↦ inl (omega (arith, l)) | inr l ↦ inr (omega (arith, l)) ]

      with_measure : (o : Option ℕ) → slice_get cs j ≡ o → IsSomeAnd o (λ m. bound ≤ m) → (nat_lt (measured v) bound && passing v) ≡ false
      with_measure None is h = absurd h
      with_measure (Some m) is h = too_great v m h (column j k v m at is)

      by : (j < from) ⊎ (from ≤ j) → (nat_lt (measured v) bound && passing v) ≡ false
      by (inl below) = each j k v below at
      by (inr above) = with_measure (slice_get cs j) refl (high j above lt)

pub each_next : {K V : Type 0} (P : K → V → Type 0) (es : List (K × V)) (n : ℕ) → EachOf P es n → ((k : K) (v : V) → slice_get es n ≡ Some (k, v) → P k v) → EachOf P es (n + 1)
each_next {K} {V} P es n each last j k v lt at = by (cases_eq j n)
  where
    by : (j ≡ n) ⊎ (j ≡ n → ⊥) → P k v
    by (inl e) = last k v (subst (λ i. slice_get es i ≡ Some (k, v)) e at)
    by (inr ne) = each j k v (omega (arith, lt, ne)) at

pub none_there : {A : Type 0} (xs : List A) (i : ℕ) → slice_get xs i ≡ None → length xs ≤ i
none_there [] i h = omega arith
none_there (x ∷ xs) zero h = absurd (some_none h)
none_there (x ∷ xs) (suc i) h = let rest = none_there xs i h in omega (arith, rest)

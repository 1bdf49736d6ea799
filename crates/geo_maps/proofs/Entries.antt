-- What a look-up among entries finds.
use Rattle.std.proofs.Common.{◌≡◌, Bool, true, false, cond, List, [], ◌∷◌, ◌++◌, Option, None, Some, refl, sym, ap, ◌∙◌, subst, ℕ, zero, suc, ◌<◌, ◌≤◌, length, arith, slice_get, get_or, IfSome}
use Rattle.std.specs.Map.{lookup}
use Rattle.geo_maps.specs.Maps.{meaning_or, EachOf, EachFound}

pub some_none : {V : Type 0} {x : V} → Some x ≡ None → ⊥
some_none h = cc

pub some_same : {A : Type 0} {x y : A} → Some x ≡ Some y → x ≡ y
some_same h = cc

-- nothing is found where there is nothing
pub nothing_found : {K V : Type 0} (test : K → Bool) (es : List (K × V)) → (0 < length es → ⊥) → lookup test es ≡ None
nothing_found test [] h = refl
nothing_found test (e ∷ es) h = absurd (h (omega arith))

get_below : {A : Type 0} (xs : List A) (j : ℕ) (x : A) → slice_get xs j ≡ Some x → j < length xs
get_below [] j x h = absurd (some_none (sym h))
get_below (y ∷ ys) zero x h = omega arith
get_below (y ∷ ys) (suc j) x h = let k = get_below ys j x h in omega arith

-- what a look-up finds is an entry, whose key passes the test
entry_of : {K V : Type 0} (P : K → V → Type 0) (es : List (K × V)) → ((j : ℕ) (k : K) (v : V) → slice_get es j ≡ Some (k, v) → P k v) → (test : K → Bool) (v : V) → lookup test es ≡ Some v → (k : K) × (test k ≡ true) × P k v
entry_of P [] each test v h = absurd (some_none (sym h))
entry_of {K} {V} P (e ∷ es) each test v h = head_or (test e.0) refl h
    (λ q. entry_of P es (λ j k w g. each (suc j) k w g) test v q)
  where
    head_or : (b : Bool) → test e.0 ≡ b → cond b (Some e.1) (lookup test es) ≡ Some v → (lookup test es ≡ Some v → (k : K) × (test k ≡ true) × P k v) → (k : K) × (test k ≡ true) × P k v
    head_or true t p f = let q : e.1 ≡ v = cc in (e.0, t, subst (P e.0) q (each 0 e.0 e.1 refl))
    head_or false t p f = f p

pub each_entry : {K V : Type 0} (P : K → V → Type 0) (es : List (K × V)) (n : ℕ) → length es ≤ n → EachOf P es n → (test : K → Bool) (v : V) → lookup test es ≡ Some v → (k : K) × (test k ≡ true) × P k v
each_entry P es n le each = entry_of P es (λ j k v h. let b = get_below es j (k, v) h in each j k v (omega arith) h)

-- where no entry passes a test, nothing that is found does
pub none_passes : {K V : Type 0} (passing : V → Bool) (es : List (K × V)) (n : ℕ) → length es ≤ n → EachOf (λ k v. passing v ≡ false) es n → (test : K → Bool) → meaning_or false passing (lookup test es) ≡ false
none_passes {K} {V} passing es n le each test = by (lookup test es) refl
  where
    by : (o : Option V) → lookup test es ≡ o → meaning_or false passing o ≡ false
    by None found = refl
    by (Some v) found = (each_entry (λ (k : K) v. passing v ≡ false) es n le each test v found).2

-- where each entry meets something, what is found does
pub each_found : {K V : Type 0} (P : V → Type 0) (es : List (K × V)) (n : ℕ) → length es ≤ n → EachOf (λ k v. P v) es n → (test : K → Bool) → IfSome (lookup test es) P
each_found {K} {V} P es n le each test = by (lookup test es) refl
  where
    by : (o : Option V) → lookup test es ≡ o → IfSome o P
    by None found = tt
    by (Some v) found = (each_entry (λ (k : K) v. P v) es n le each test v found).2

-- the last entry is found, where no entry before it has its key
found_by : {V : Type 0} (b : Bool) (x : V) (o p : Option V) {w : Option V} → cond b (Some x) o ≡ None → (o ≡ None → p ≡ w) → cond b (Some x) p ≡ w
found_by true x o p h f = absurd (some_none h)
found_by false x o p h f = f h

pub last_found : {K V : Type 0} (test : K → Bool) (es : List (K × V)) (k : K) (v : V) → lookup test es ≡ None → test k ≡ true → lookup test (es ++ (k, v) ∷ []) ≡ Some v
last_found test [] k v none t = rw t
last_found {K} {V} test (e ∷ es) k v none t = found_by (test e.0) _ _ _ none (λ h. last_found test es k v h t)

-- with one value written, each that is found still meets P
pub found_written : {K V : Type 0} (P : V → Type 0) (eq : K → K → Bool) (es fs : List (K × V)) (test : K → Bool) (w : V) → EachFound P eq es
    → ((q : K) → lookup (eq q) fs ≡ cond (test q) (Some w) (lookup (eq q) es)) → P w → EachFound P eq fs
found_written {K} {V} P eq es fs test w each is pw k v h = by (test k) (sym (is k) ∙ h)
  where
    by : (b : Bool) → cond b (Some w) (lookup (eq k) es) ≡ Some v → P v
    by true e = subst P (some_same e) pw
    by false e = each k v e

pub slice_get_from_get_or : {A : Type 0} (xs : List A) (i : ℕ) (x : A) → i < length xs → get_or xs i x ≡ x → slice_get xs i ≡ Some x
slice_get_from_get_or [] i x lt h = absurd (omega arith)
slice_get_from_get_or (y ∷ ys) zero x lt h = ap Some h
slice_get_from_get_or (y ∷ ys) (suc i) x lt h = slice_get_from_get_or ys i x (omega arith) h

-- What a map's values show, listed by rising key.
use Rattle.std.proofs.Common.{◌≡◌, Bool, true, false, cond, List, [], ◌∷◌, ◌++◌, Option, None, Some, refl, sym, ap, ◌∙◌, ℕ, ◌+◌, take, slice_get, get_or, arith, true≢false}
use Rattle.std.specs.declared.cmp.Ordering.{Ordering}
use Rattle.std.specs.declared.cmp.Ordering.TheVariants.{Less, Equal, Greater}
use Rattle.std.specs.Ordering.{is_lt, is_eq, ordering_reverse}
use Rattle.std.specs.Cmp.{IsEquivalence, IsTotalOrder}
use Rattle.std.specs.List.{IsDistinct, AllByRecursion, Contains}
use Rattle.std.specs.List.Sorted.{IsPermutation, IsSortedBy, IsStrictlySortedBy}
use Rattle.std.specs.Map.{lookup, keys_of}
use Rattle.std.specs.Option.{option_and_then}
use Rattle.std.proofs.lemmas.List.{take_more, get_or-map, append-nil}
use Rattle.std.proofs.lemmas.Option.{get_or_from_slice_get, slice_get_within}
use Rattle.std.proofs.lemmas.List.Sorted.{IsPermutation-map, IsPermutation-sym, Contains-permutation}
use Rattle.std.proofs.lemmas.Map.Keys.{IsDistinct-head, IsDistinct-tail, IsDistinct-cons, IsDistinct-IsPermutation, apart_from_distinct, sorted_from_all_adjacent}
use Rattle.std.proofs.lemmas.Map.Entries.{place_from_lookup, lookup_from_place, length-keys_of}
use Rattle.std.specs.HashMap.Eq.{lookup_congr}
use Rattle.geo_maps.proofs.Entries.{slice_get_from_get_or}
use Rattle.geo_maps.proofs.Changed.{none_later}

-- what an entry shows, before what the others show
abbrev pub before : {K W : Type 0} → K → Option W → List (K × W) → List (K × W)
before k None rest = rest
before k (Some w) rest = (k, w) ∷ rest

abbrev pub shown_of : {K V W : Type 0} → (V → Option W) → List (K × V) → List (K × W)
shown_of show [] = []
shown_of show (e ∷ es) = before e.0 (show e.1) (shown_of show es)

module _ {K W : Type 0} where
  pub one_shown : (k j : K) (w : W) (o : Option W) (out more : List (K × W)) → more ≡ out ++ (j, w) ∷ [] → j ≡ k → Some w ≡ o → more ≡ out ++ before k o []
  one_shown k j w o out more p q r = p ∙ ap (λ k. out ++ (k, w) ∷ []) q ∙ ap (λ o. out ++ before k o []) r

  pub none_shown : (k : K) (o : Option W) (out more : List (K × W)) → more ≡ out → None ≡ o → more ≡ out ++ before k o []
  none_shown k o out more p r = p ∙ sym (append-nil out) ∙ ap (λ o. out ++ before k o []) r

module _ {K V W : Type 0} (show : V → Option W) where
  before_append : (k : K) (o : Option W) (xs ys : List (K × W)) → before k o (xs ++ ys) ≡ before k o xs ++ ys
  before_append k None xs ys = refl
  before_append k (Some w) xs ys = refl

  pub shown_push : (es : List (K × V)) (e : K × V) → shown_of show (es ++ e ∷ []) ≡ shown_of show es ++ before e.0 (show e.1) []
  shown_push [] e = refl
  shown_push (d ∷ es) e = ap (before d.0 (show d.1)) (shown_push es e) ∙ before_append d.0 (show d.1) (shown_of show es) (before e.0 (show e.1) [])

  -- one more of the first entries
  pub shown_more : (es : List (K × V)) (i : ℕ) (k : K) (v : V) (out more : List (K × W)) → Some (k, v) ≡ slice_get es i → out ≡ shown_of show (take i es) → more ≡ out ++ before k (show v) [] → more ≡ shown_of show (take (i + 1) es)
  shown_more es i k v out more at p q =
      let d : K × V = (k, v) in
      let lt = slice_get_within es i d (sym at) in
      let got = get_or_from_slice_get es i d d (sym at) in
      q ∙ ap (λ xs. xs ++ before k (show v) []) p ∙ sym (shown_push (take i es) d) ∙ ap (λ e. shown_of show (take i es ++ e ∷ [])) (sym got) ∙ ap (shown_of show) (sym (take_more es i d lt))

  apart_before : (eq : K → K → Bool) (x k : K) (o : Option W) (rest : List (K × W)) → eq x k ≡ false → AllByRecursion (λ y. eq x y ≡ false) (keys_of rest) → AllByRecursion (λ y. eq x y ≡ false) (keys_of (before k o rest))
  apart_before eq x k None rest p all = all
  apart_before eq x k (Some w) rest p all = (p, all)

  apart_shown : (eq : K → K → Bool) (x : K) (es : List (K × V)) → AllByRecursion (λ y. eq x y ≡ false) (keys_of es) → AllByRecursion (λ y. eq x y ≡ false) (keys_of (shown_of show es))
  apart_shown eq x [] all = tt
  apart_shown eq x (e ∷ es) all = apart_before eq x e.0 (show e.1) (shown_of show es) all.0 (apart_shown eq x es all.1)

  distinct_before : (eq : K → K → Bool) (k : K) (o : Option W) (rest : List (K × W)) → AllByRecursion (λ y. eq k y ≡ false) (keys_of rest) → IsDistinct eq (keys_of rest) → IsDistinct eq (keys_of (before k o rest))
  distinct_before eq k None rest all d = d
  distinct_before eq k (Some w) rest all d = IsDistinct-cons eq k (keys_of rest) all d

  pub shown_distinct : (eq : K → K → Bool) (es : List (K × V)) → IsDistinct eq (keys_of es) → IsDistinct eq (keys_of (shown_of show es))
  shown_distinct eq [] unique = unique
  shown_distinct eq (e ∷ es) unique = distinct_before eq e.0 (show e.1) (shown_of show es) (apart_shown eq e.0 es (IsDistinct-head eq e.0 (keys_of es) unique)) (shown_distinct eq es (IsDistinct-tail eq e.0 (keys_of es) unique))

  lookup_before : (test : K → Bool) (k : K) (o : Option W) (rest : List (K × W)) (c : Bool) → test k ≡ c → (c ≡ true → lookup test rest ≡ None) → lookup test (before k o rest) ≡ cond c o (lookup test rest)
  lookup_before test k None rest true hit none = none refl
  lookup_before test k None rest false hit none = refl
  lookup_before test k (Some w) rest c hit none = ap (λ c. cond c (Some w) (lookup test rest)) hit

  pub shown_at : (eq : K → K → Bool) → IsEquivalence eq → (es : List (K × V)) → IsDistinct eq (keys_of es) → (q : K) → lookup (eq q) (shown_of show es) ≡ option_and_then show (lookup (eq q) es)
  shown_at eq laws [] unique q = refl
  shown_at eq laws (e ∷ es) unique q =
      let head = IsDistinct-head eq e.0 (keys_of es) unique in
      let rest = shown_at eq laws es (IsDistinct-tail eq e.0 (keys_of es) unique) q in
      lookup_before (eq q) e.0 (show e.1) (shown_of show es) (eq q e.0) refl (λ c. none_later eq laws (shown_of show es) e.0 q c (apart_shown eq e.0 es head))
      ∙ ap (cond (eq q e.0) (show e.1)) rest ∙ by (eq q e.0)
    where
      by : (c : Bool) → cond c (show e.1) (option_and_then show (lookup (eq q) es)) ≡ option_and_then show (cond c (Some e.1) (lookup (eq q) es))
      by true = refl
      by false = refl

-- entries with keys apart have the same value at each key, in whatever order
module _ {K W : Type 0} (eq : K → K → Bool) (laws : IsEquivalence eq) where
  pub reordered_distinct : (es fs : List (K × W)) → IsPermutation es fs → IsDistinct eq (keys_of es) → IsDistinct eq (keys_of fs)
  reordered_distinct es fs moved unique = IsDistinct-IsPermutation eq laws.symm (keys_of es) (keys_of fs) (IsPermutation-map (λ (e : K × W). e.0) es fs moved) unique

  found_in : (es fs : List (K × W)) → IsPermutation es fs → IsDistinct eq (keys_of fs) → (q : K) (w : W) → lookup (eq q) es ≡ Some w → lookup (eq q) fs ≡ Some w
  found_in es fs moved unique q w found =
      let p = place_from_lookup (eq q) es w found in
      let d : K × W = (p.1, w) in
      let there : Contains es d = (p.0, slice_get_within es p.0 d p.2, get_or_from_slice_get es p.0 d d p.2) in
      let here = Contains-permutation es fs d moved there in
      lookup_congr eq laws.congr fs q p.1 p.3 ∙ lookup_from_place laws fs here.0 p.1 w unique (slice_get_from_get_or fs here.0 d here.1 here.2)

  pub reordered_at : (es fs : List (K × W)) → IsPermutation es fs → IsDistinct eq (keys_of es) → (q : K) → lookup (eq q) fs ≡ lookup (eq q) es
  reordered_at es fs moved unique q = by (lookup (eq q) es) refl (lookup (eq q) fs) refl
    where
      by : (o : Option W) → lookup (eq q) es ≡ o → (p : Option W) → lookup (eq q) fs ≡ p → p ≡ o
      by (Some w) e p f = sym f ∙ found_in es fs moved (reordered_distinct es fs moved unique) q w e
      by None e None f = refl
      by None e (Some w) f = sym (found_in fs es (IsPermutation-sym es fs moved) unique q w f) ∙ e

not_above : (o p : Ordering) → o ≡ ordering_reverse p → is_lt p ≡ false → is_eq o ≡ false → o ≡ Less
not_above Less p e f g = refl
not_above Equal p e f g = absurd (true≢false g)
not_above Greater Less e f g = absurd (true≢false f)
not_above Greater Equal e f g = cc
not_above Greater Greater e f g = cc

-- sorted by keys that are apart, the keys rise
module _ {K W : Type 0} (eq : K → K → Bool) (cmp : K → K → Ordering) (total : IsTotalOrder cmp) (ties : (x y : K) → eq x y ≡ is_eq (cmp x y)) where
  pub rises : (es : List (K × W)) → IsSortedBy (λ (a b : K × W). is_lt (cmp a.0 b.0)) es → IsDistinct eq (keys_of es) → IsStrictlySortedBy cmp (keys_of es)
  unfolding IsStrictlySortedBy
  rises [] sorted unique = tt
  rises (e ∷ es) sorted unique = sorted_from_all_adjacent total (keys_of (e ∷ es)) e.0 (λ k lt.
      let same = length-keys_of (e ∷ es) in
      let here = get_or-map (λ (e : K × W). e.0) (e ∷ es) k e e.0 (omega (arith, same)) in
      let next = get_or-map (λ (e : K × W). e.0) (e ∷ es) (k + 1) e e.0 (omega (arith, same)) in
      let up = sorted k e (omega arith) (omega (arith, same)) in
      let apart = apart_from_distinct eq (keys_of (e ∷ es)) k (k + 1) e.0 unique (omega arith) lt in
      not_above (cmp (get_or (keys_of (e ∷ es)) k e.0) (get_or (keys_of (e ∷ es)) (k + 1) e.0)) (cmp (get_or (keys_of (e ∷ es)) (k + 1) e.0) (get_or (keys_of (e ∷ es)) k e.0))
      (total.antisymm _ _) ((λ i. is_lt (cmp (next i) (here i))) ∙ up) (sym (ties _ _) ∙ apart))

-- Entries that are told in the order in which they came, each once.
use Rattle.std.proofs.Common.{◌≡◌, Bool, true, false, cond, List, [], ◌∷◌, ◌++◌, Option, None, Some, refl, sym, ap, ◌∙◌, subst, ℕ, zero, suc, ◌+◌, ◌<◌, ◌≤◌, ◌⊎◌, inl, inr, length, arith, slice_get, IsSome, IsSomeAnd, is_some, nat_lt, true≢false}
use Rattle.std.proofs.lemmas.Bool.Decides.{nat_tests}
use Rattle.std.proofs.lemmas.Bool.{cases_eq}
use Rattle.std.proofs.lemmas.List.{append-nil}
use Rattle.std.proofs.lemmas.Map.Entries.{place_from_lookup, lookup_from_place}
use Rattle.std.proofs.lemmas.Map.Keys.{IsDistinct-push, IsDistinct-head, IsDistinct-tail}
use Rattle.std.proofs.lemmas.Option.{slice_get_within}
use Rattle.std.specs.Cmp.{IsEquivalence}
use Rattle.std.specs.List.{IsDistinct, AllByRecursion, list_any}
use Rattle.std.specs.Map.{lookup, keys_of}
use Rattle.std.specs.Option.{option_and_then}
use Rattle.std.specs.HashMap.Eq.{lookup_congr}
use Rattle.geo_maps.specs.Maps.{HasAll}
use Rattle.geo_maps.proofs.Entries.{some_none, some_same, last_found}
use Rattle.geo_maps.proofs.Listing.{before}

no_keys : {K : Type 0} (eq : K → K → Bool) → IsDistinct eq []
unfolding IsDistinct
no_keys eq = tt

module _ {K W : Type 0} where
  not_any : (test : K → Bool) (es : List (K × W)) → lookup test es ≡ None → list_any test (keys_of es) ≡ false
  not_any test [] none = refl
  not_any test (e ∷ es) none = by (test e.0) refl none (not_any test es)
    where
      by : (b : Bool) → test e.0 ≡ b → cond b (Some e.1) (lookup test es) ≡ None → (lookup test es ≡ None → list_any test (keys_of es) ≡ false) → list_any test (keys_of (e ∷ es)) ≡ false
      by true t h rest = absurd (some_none h)
      by false t h rest = rw t (rest h)

  keys_pushed : (es : List (K × W)) (k : K) (w : W) → keys_of (es ++ (k, w) ∷ []) ≡ keys_of es ++ k ∷ []
  keys_pushed [] k w = refl
  keys_pushed (e ∷ es) k w = ap (λ ks. e.0 ∷ ks) (keys_pushed es k w)

  -- what is found of a list with one entry more
  pushed_at : (test : K → Bool) (es : List (K × W)) (k : K) (w : W) → test k ≡ false → lookup test (es ++ (k, w) ∷ []) ≡ lookup test es
  pushed_at test [] k w off = rw off refl
  pushed_at test (e ∷ es) k w off = ap (cond (test e.0) (Some e.1)) (pushed_at test es k w off)

module _ {K V : Type 0} (eq : K → K → Bool) (laws : IsEquivalence eq) where
  apart_at : (es : List (K × V)) (x : K) → AllByRecursion (λ y. eq x y ≡ false) (keys_of es) → (p : ℕ) (k : K) (v : V) → slice_get es p ≡ Some (k, v) → eq x k ≡ false
  apart_at [] x all p k v there = absurd (some_none (sym there))
  apart_at (e ∷ es) x all zero k v there = ap (λ (d : K × V). eq x d.0) (sym (some_same there)) ∙ all.0
  apart_at (e ∷ es) x all (suc p) k v there = apart_at es x all.1 p k v there

  -- keys at two places are not equal
  other_key : (es : List (K × V)) → IsDistinct eq (keys_of es) → (p p' : ℕ) (k k' : K) (v v' : V) → slice_get es p ≡ Some (k, v) → slice_get es p' ≡ Some (k', v') → (p' ≡ p → ⊥) → eq k' k ≡ false
  other_key [] unique p p' k k' v v' there there' ne = absurd (some_none (sym there))
  other_key (e ∷ es) unique zero zero k k' v v' there there' ne = absurd (ne refl)
  other_key (e ∷ es) unique zero (suc p') k k' v v' there there' ne =
      laws.symm k' k ∙ ap (λ (d : K × V). eq d.0 k') (sym (some_same there)) ∙ apart_at es e.0 (IsDistinct-head eq e.0 (keys_of es) unique) p' k' v' there'
  other_key (e ∷ es) unique (suc p) zero k k' v v' there there' ne =
      ap (λ (d : K × V). eq d.0 k) (sym (some_same there')) ∙ apart_at es e.0 (IsDistinct-head eq e.0 (keys_of es) unique) p k v there
  other_key (e ∷ es) unique (suc p) (suc p') k k' v v' there there' ne = other_key es (IsDistinct-tail eq e.0 (keys_of es) unique) p p' k k' v v' there there' (λ h. ne (ap suc h))

below_next : (j i : ℕ) → (j ≡ i → ⊥) → nat_lt j (i + 1) ≡ nat_lt j i
below_next j i ne = by (order j i)
  where
    order : (j n : ℕ) → (j < n) ⊎ (n ≤ j)
    order zero zero = inr (omega arith)
    order zero (suc n) = inl (omega arith)
    order (suc j) zero = inr (omega arith)
    order (suc j) (suc n) = elim (order j n) [ inl l ↦ inl (omega (arith, l)) | inr l ↦ inr (omega (arith, l)) ]

    by : (j < i) ⊎ (i ≤ j) → nat_lt j (i + 1) ≡ nat_lt j i
    by (inl l) = (let a : nat_lt j i ≡ true = grind (arith, nat_tests, l) in let b : nat_lt j (i + 1) ≡ true = grind (arith, nat_tests, l) in b ∙ sym a)
    by (inr l) = (let a : nat_lt j i ≡ false = grind (arith, nat_tests, l) in let b : nat_lt j (i + 1) ≡ false = grind (arith, nat_tests, l, ne) in b ∙ sym a)

not_itself : (i : ℕ) → nat_lt i i ≡ false
not_itself i = grind (arith, nat_tests)

never : (j : ℕ) → nat_lt j 0 ≡ false
never j = grind (arith, nat_tests)

below_own : (i : ℕ) → nat_lt i (i + 1) ≡ true
below_own i = grind (arith, nat_tests)

-- one place more stands where it came
pub has_more : (order came : List ℕ) (n i : ℕ) → HasAll order came n → slice_get came n ≡ Some i → slice_get order i ≡ Some n → HasAll order came (n + 1)
has_more order came n i has at back = λ p lt. elim (cases_eq p n) [
  | inl same ↦ subst (λ m. IsSomeAnd (slice_get came m) (λ i. slice_get order i ≡ Some m)) (sym same) (subst (λ o. IsSomeAnd o (λ i. slice_get order i ≡ Some n)) (sym at) back)
  | inr ne ↦ has p (omega (arith, lt, ne))
]

-- what was told of the first so many of an order: of the values that came there what is kept of them, and nothing else
pub record Told {K V : Type 0} (eq : K → K → Bool) (es : List (K × V)) (came : List ℕ) (kept : V → Option V) (i : ℕ) (out : List (K × V)) : Type 0 where
  pub distinct : IsDistinct eq (keys_of out)
  pub at : (p j : ℕ) (k : K) (v : V) → slice_get es p ≡ Some (k, v) → slice_get came p ≡ Some j → lookup (eq k) out ≡ cond (nat_lt j i) (kept v) None
  pub sound : (q : K) (v : V) → lookup (eq q) out ≡ Some v → IsSome (lookup (eq q) es)

module _ {K V : Type 0} (eq : K → K → Bool) (es : List (K × V)) (came : List ℕ) (kept : V → Option V) where
  pub told_none : Told eq es came kept 0 []
  told_none = record {
    distinct = no_keys eq;
    at = λ p j k v there at. ap (λ b. cond b (kept v) None) (sym (never j));
    sound = λ q v h. absurd (some_none (sym h));
  }

module _ {K V : Type 0} (eq : K → K → Bool) (laws : IsEquivalence eq) (es : List (K × V)) (unique : IsDistinct eq (keys_of es)) (order came : List ℕ) (has : HasAll order came (length es)) (kept : V → Option V) where
  abbrev So : ℕ → List (K × V) → Type 0
  So = Told eq es came kept

  -- where it came is where the order leads back to it
  comes_back : (p j : ℕ) (k : K) (v : V) → slice_get es p ≡ Some (k, v) → slice_get came p ≡ Some j → slice_get order j ≡ Some p
  comes_back p j k v there at = subst (λ o. IsSomeAnd o (λ i. slice_get order i ≡ Some p)) at (has p (slice_get_within es p (k, v) there))

  where_came : (p : ℕ) (k : K) (v : V) → slice_get es p ≡ Some (k, v) → (j : ℕ) × (slice_get came p ≡ Some j)
  where_came p k v there = by (slice_get came p) refl (has p (slice_get_within es p (k, v) there))
    where
      by : (o : Option ℕ) → slice_get came p ≡ o → IsSomeAnd o (λ i. slice_get order i ≡ Some p) → (j : ℕ) × (slice_get came p ≡ Some j)
      by None e h = absurd h
      by (Some j) e h = (j, e)

  -- nothing stands there
  pub told_skip : (i : ℕ) (out : List (K × V)) → So i out → ((p : ℕ) (k : K) (v : V) → slice_get es p ≡ Some (k, v) → slice_get order i ≡ Some p → slice_get came p ≡ Some i → ⊥) → So (i + 1) out
  told_skip i out told gone = record {
    distinct = told.distinct;
    at = λ p j k v there at. told.at p j k v there at ∙ ap (λ b. cond b (kept v) None) (sym (below_next j i (λ same.
        gone p k v there (subst (λ n. slice_get order n ≡ Some p) same (comes_back p j k v there at)) (subst (λ n. slice_get came p ≡ Some n) same at))));
    sound = told.sound;
  }

  -- the value that came there
  module _ (i p : ℕ) (k : K) (v : V) (out : List (K × V)) (told : So i out) (there : slice_get es p ≡ Some (k, v)) (leads : slice_get order i ≡ Some p) (at : slice_get came p ≡ Some i) where
    absent : lookup (eq k) out ≡ None
    absent = told.at p i k v there at ∙ ap (λ b. cond b (kept v) None) (not_itself i)

    others : (p' j : ℕ) (k' : K) (v' : V) → slice_get es p' ≡ Some (k', v') → slice_get came p' ≡ Some j → (p' ≡ p → ⊥) → lookup (eq k') out ≡ cond (nat_lt j (i + 1)) (kept v') None
    others p' j k' v' there' at' ne = told.at p' j k' v' there' at' ∙ ap (λ b. cond b (kept v') None) (sym (below_next j i (λ same.
        ne (some_same (sym (subst (λ n. slice_get order n ≡ Some p') same (comes_back p' j k' v' there' at')) ∙ leads)))))

    same_value : (k' : K) (v' : V) (p' : ℕ) → p' ≡ p → slice_get es p' ≡ Some (k', v') → ◌≡◌ {A = K × V} (k', v') (k, v)
    same_value k' v' p' same there' = some_same (sym there' ∙ ap (slice_get es) same ∙ there)

    here : (j p' : ℕ) → p' ≡ p → slice_get came p' ≡ Some j → j ≡ i
    here j p' same at' = some_same (sym at' ∙ ap (slice_get came) same ∙ at)

    told_one : (w : V) → kept v ≡ Some w → So (i + 1) (out ++ (k, w) ∷ [])
    told_one w is = record {
      distinct = subst (IsDistinct eq) (sym (keys_pushed out k w)) (IsDistinct-push laws (keys_of out) k told.distinct (not_any (eq k) out absent));
      at = λ p' j k' v' there' at'. elim (cases_eq p' p) [
        | inl same ↦ ap (λ (d : K × V). lookup (eq d.0) (out ++ (k, w) ∷ [])) (same_value k' v' p' same there')
            ∙ last_found (eq k) out k w absent (laws.refl k) ∙ sym is ∙ ap kept (ap (λ (d : K × V). d.1) (sym (same_value k' v' p' same there')))
            ∙ sym (ap (λ n. cond (nat_lt n (i + 1)) (kept v') None) (here j p' same at') ∙ ap (λ b. cond b (kept v') None) (below_own i))
        | inr ne ↦ pushed_at (eq k') out k w (other_key eq laws es unique p p' k k' v v' there there' ne) ∙ others p' j k' v' there' at' ne
      ];
      sound = λ q x found. by q x found (eq q k) refl;
    }
      where
        by : (q : K) (x : V) → lookup (eq q) (out ++ (k, w) ∷ []) ≡ Some x → (b : Bool) → eq q k ≡ b → IsSome (lookup (eq q) es)
        by q x found true t = subst IsSome (sym (lookup_congr eq laws.congr es q k t ∙ lookup_from_place laws es p k v unique there)) refl
        by q x found false t = told.sound q x (sym (pushed_at (eq q) out k w t) ∙ found)

    told_nothing : kept v ≡ None → So (i + 1) out
    told_nothing is = record {
      distinct = told.distinct;
      at = λ p' j k' v' there' at'. elim (cases_eq p' p) [
        | inl same ↦ ap (λ (d : K × V). lookup (eq d.0) out) (same_value k' v' p' same there') ∙ absent ∙ sym is ∙ ap kept (ap (λ (d : K × V). d.1) (sym (same_value k' v' p' same there')))
            ∙ sym (ap (λ n. cond (nat_lt n (i + 1)) (kept v') None) (here j p' same at') ∙ ap (λ b. cond b (kept v') None) (below_own i))
        | inr ne ↦ others p' j k' v' there' at' ne
      ];
      sound = told.sound;
    }

    pub told_next : (more : List (K × V)) → more ≡ out ++ before k (kept v) [] → So (i + 1) more
    told_next more is = by (kept v) refl
      where
        by : (o : Option V) → kept v ≡ o → So (i + 1) more
        by None e = subst (So (i + 1)) (sym (is ∙ ap (λ o. out ++ before k o []) e ∙ append-nil out)) (told_nothing e)
        by (Some w) e = subst (So (i + 1)) (sym (is ∙ ap (λ o. out ++ before k o []) e)) (told_one w e)

  -- once the order was gone through, all was told
  pub told_all : (n : ℕ) (out : List (K × V)) → So n out → length order ≤ n → (q : K) → lookup (eq q) out ≡ option_and_then kept (lookup (eq q) es)
  told_all n out told long q = by (lookup (eq q) es) refl
    where
      nothing : (o : Option V) → lookup (eq q) out ≡ o → lookup (eq q) es ≡ None → o ≡ None
      nothing None e absent = refl
      nothing (Some x) e absent = absurd (true≢false (sym (told.sound q x e) ∙ ap is_some absent))

      by : (o : Option V) → lookup (eq q) es ≡ o → lookup (eq q) out ≡ option_and_then kept o
      by None e = nothing (lookup (eq q) out) refl e
      by (Some v) e =
          let p = place_from_lookup (eq q) es v e in
          let j = where_came p.0 p.1 v p.2 in
          let back = comes_back p.0 j.0 p.1 v p.2 j.1 in
          let within = slice_get_within order j.0 p.0 back in
          lookup_congr eq laws.congr out q p.1 p.3 ∙ told.at p.0 j.0 p.1 v p.2 j.1 ∙ ap (λ b. cond b (kept v) None) (below n j.0 (omega (arith, within, long)))
        where
          below : (n j : ℕ) → j < n → nat_lt j n ≡ true
          below n j l = grind (arith, nat_tests, l)

-- Lists of entries, joined one after another.
use Rattle.std.proofs.Common.{◌≡◌, Bool, true, false, cond, List, [], ◌∷◌, ◌++◌, Some, refl, sym, ap, ◌∙◌}
use Rattle.std.specs.Cmp.{IsEquivalence}
use Rattle.std.specs.List.{IsDistinct, AllByRecursion}
use Rattle.std.specs.Map.{lookup, keys_of}
use Rattle.std.proofs.lemmas.Map.Keys.{IsDistinct-head, IsDistinct-tail}
use Rattle.geo_maps.specs.Maps.{meaning_or, all_joined}

module _ {K V M : Type 0} (z : M) (mean : V → M) (join : M → M → M) (assoc : (a b c : M) → join a (join b c) ≡ join (join a b) c) (comm : (a b : M) → join a b ≡ join b a) (left : (a : M) → join z a ≡ a) (eq : K → K → Bool) where
  pub all_joined_append : (xs : List (K × V)) (k : K) (v : V) (q : K) → all_joined z mean join eq (xs ++ (k, v) ∷ []) q ≡ cond (eq q k) (join (all_joined z mean join eq xs q) (mean v)) (all_joined z mean join eq xs q)
  all_joined_append [] k v q = by (eq q k)
    where
      by : (b : Bool) → cond b (join (mean v) z) z ≡ cond b (join z (mean v)) z
      by true = comm (mean v) z
      by false = refl
  all_joined_append (x ∷ xs) k v q = by (eq q x.0) (eq q k) _ (all_joined_append xs k v q)
    where
      by : (a b : Bool) (r : M) → r ≡ cond b (join (all_joined z mean join eq xs q) (mean v)) (all_joined z mean join eq xs q)
          → cond a (join (mean x.1) r) r ≡ cond b (join (cond a (join (mean x.1) (all_joined z mean join eq xs q)) (all_joined z mean join eq xs q)) (mean v)) (cond a (join (mean x.1) (all_joined z mean join eq xs q)) (all_joined z mean join eq xs q))
      by true true r h = ap (join (mean x.1)) h ∙ assoc (mean x.1) (all_joined z mean join eq xs q) (mean v)
      by true false r h = ap (join (mean x.1)) h
      by false true r h = h
      by false false r h = h

  -- one more joined, one fewer left
  pub one_joined : (b t : Bool) → t ≡ b → (s s' l l' : M) (v w : M) → w ≡ v → s' ≡ cond t (join s w) s → l' ≡ cond b (join l v) l → join s' l ≡ join s l'
  one_joined true t e s s' l l' v w is p q = ap (λ x. join x l) (p ∙ (λ j. cond (e j) (join s (is j)) s)) ∙ sym (assoc s v l) ∙ ap (join s) (comm v l) ∙ ap (join s) (sym q)
  one_joined false t e s s' l l' v w is p q = ap (λ x. join x l) (p ∙ ap (λ t. cond t (join s w) s) e) ∙ ap (join s) (sym q)

  module _ (laws : IsEquivalence eq) where
    none_joined : (es : List (K × V)) (k q : K) → eq q k ≡ true → AllByRecursion (λ y. eq k y ≡ false) (keys_of es) → all_joined z mean join eq es q ≡ z
    none_joined [] k q h all = refl
    none_joined (e ∷ es) k q h all = ap (λ b. cond b (join (mean e.1) (all_joined z mean join eq es q)) (all_joined z mean join eq es q)) (laws.congr q k e.0 h ∙ all.0) ∙ none_joined es k q h all.1

    -- of entries with no two keys equal, what is at a key is what a look-up finds
    pub all_joined_unique : (es : List (K × V)) → IsDistinct eq (keys_of es) → (q : K) → all_joined z mean join eq es q ≡ meaning_or z mean (lookup (eq q) es)
    all_joined_unique [] unique q = refl
    all_joined_unique (e ∷ es) unique q = by (eq q e.0) refl (all_joined_unique es (IsDistinct-tail eq e.0 (keys_of es) unique) q)
      where
        by : (b : Bool) → eq q e.0 ≡ b → all_joined z mean join eq es q ≡ meaning_or z mean (lookup (eq q) es) → cond b (join (mean e.1) (all_joined z mean join eq es q)) (all_joined z mean join eq es q) ≡ meaning_or z mean (cond b (Some e.1) (lookup (eq q) es))
        by true h r = ap (join (mean e.1)) (none_joined es e.0 q h (IsDistinct-head eq e.0 (keys_of es) unique)) ∙ comm (mean e.1) z ∙ left (mean e.1)
        by false h r = r

-- What a map's `retain` leaves.
use Rattle.std.proofs.Common.{◌≡◌, Bool, true, false, cond, List, [], ◌∷◌, None, Some, refl, sym, ap, ◌∙◌, subst}
use Rattle.std.specs.Cmp.{IsEquivalence}
use Rattle.std.specs.List.{IsDistinct, AllByRecursion}
use Rattle.std.specs.Map.{lookup, keys_of}
use Rattle.std.specs.Map.Calls.{RetainsPairs}
use Rattle.std.proofs.lemmas.Map.Keys.{IsDistinct-head, IsDistinct-tail}
use Rattle.geo_maps.specs.Maps.{meaning_or, EachFound}
use Rattle.geo_maps.proofs.Entries.{some_same, some_none}

-- no key like the first comes after it
pub none_later : {K V : Type 0} (eq : K → K → Bool) → IsEquivalence eq → (es : List (K × V)) (k q : K) → eq q k ≡ true → AllByRecursion (λ y. eq k y ≡ false) (keys_of es) → lookup (eq q) es ≡ None
none_later eq laws [] k q h all = refl
none_later eq laws (e ∷ es) k q h all = ap (λ b. cond b (Some e.1) (lookup (eq q) es)) (laws.congr q k e.0 h ∙ all.0) ∙ none_later eq laws es k q h all.1

module _ {K V M F : Type 0} (z : M) (mean : V → M) (changed : V → V) (eq : K → K → Bool) (laws : IsEquivalence eq) (T : F → K → V → Bool → V → F → Type 0) (f : F)
    (says : (k : K) (v : V) (b : Bool) (w : V) (g : F) → T f k v b w g → (w ≡ changed v) × ((b ≡ false → mean w ≡ z) × (b ≡ true → mean w ≡ z → ⊥)) × (g ≡ f)) where
  -- what each key means is that of the changed value, since what was dropped meant nothing
  pub changed_at : (es kept : List (K × V)) → IsDistinct eq (keys_of es) → RetainsPairs T f es kept → (q : K) → meaning_or z mean (lookup (eq q) kept) ≡ meaning_or z (λ v. mean (changed v)) (lookup (eq q) es)
  changed_at [] kept unique h q = ap (λ es. meaning_or z mean (lookup (eq q) es)) h
  changed_at (e ∷ es) kept unique h q =
      let s = says e.0 e.1 h.0 h.1 h.2 h.4 in
      let later = changed_at es h.3 (IsDistinct-tail eq e.0 (keys_of es) unique) (subst (λ g. RetainsPairs T g es h.3) s.2 h.5) q in
      ap (λ es. meaning_or z mean (lookup (eq q) es)) h.6 ∙ by h.0 (eq q e.0) s.1.0 s.0 (λ c. later ∙ ap (meaning_or z (λ v. mean (changed v))) (none_later eq laws es e.0 q c (IsDistinct-head eq e.0 (keys_of es) unique))) refl later
    where
      by : (b c : Bool) → (b ≡ false → mean h.1 ≡ z) → h.1 ≡ changed e.1 → (c ≡ true → meaning_or z mean (lookup (eq q) h.3) ≡ z) → eq q e.0 ≡ c
          → meaning_or z mean (lookup (eq q) h.3) ≡ meaning_or z (λ v. mean (changed v)) (lookup (eq q) es)
          → meaning_or z mean (lookup (eq q) (cond b ((e.0, h.1) ∷ h.3) h.3)) ≡ meaning_or z (λ v. mean (changed v)) (cond c (Some e.1) (lookup (eq q) es))
      by true true empty is none hit later = ap (λ c. meaning_or z mean (cond c (Some h.1) (lookup (eq q) h.3))) hit ∙ ap mean is
      by true false empty is none hit later = ap (λ c. meaning_or z mean (cond c (Some h.1) (lookup (eq q) h.3))) hit ∙ later
      by false true empty is none hit later = none refl ∙ sym (empty refl) ∙ ap mean is
      by false false empty is none hit later = later

  -- and what is left means something
  pub left_filled : (es kept : List (K × V)) → RetainsPairs T f es kept → EachFound (λ v. mean v ≡ z → ⊥) eq kept
  left_filled [] kept h k v found = absurd (some_none (sym (ap (lookup (eq k)) (sym h) ∙ found)))
  left_filled (e ∷ es) kept h k v found =
      let s = says e.0 e.1 h.0 h.1 h.2 h.4 in
      by h.0 s.1.1 (ap (lookup (eq k)) (sym h.6) ∙ found) (λ g. left_filled es h.3 (subst (λ g. RetainsPairs T g es h.3) s.2 h.5) k v g)
    where
      at : (c : Bool) → (mean h.1 ≡ z → ⊥) → cond c (Some h.1) (lookup (eq k) h.3) ≡ Some v → (lookup (eq k) h.3 ≡ Some v → mean v ≡ z → ⊥) → mean v ≡ z → ⊥
      at true full p later = subst (λ v. mean v ≡ z → ⊥) (some_same p) full
      at false full p later = later p

      by : (b : Bool) → (b ≡ true → mean h.1 ≡ z → ⊥) → lookup (eq k) (cond b ((e.0, h.1) ∷ h.3) h.3) ≡ Some v → (lookup (eq k) h.3 ≡ Some v → mean v ≡ z → ⊥) → mean v ≡ z → ⊥
      by true full p later = at (eq k e.0) (full refl) p later
      by false full p later = later p

-- Maps joined key by key.
use Rattle.std.proofs.Common.{◌≡◌, ◌≢◌, Bool, true, false, cond, List, Option, None, Some, refl, sym, ap, ◌∙◌, subst, subst₂, ℕ, ◌<◌, ◌≤◌, length, arith, slice_get, ◌⊎◌, inl, inr, ◌+◌}
use Rattle.std.proofs.lemmas.Bool.{cases_Bool, cases_eq}
use Rattle.std.specs.Cmp.{IsEquivalence}
use Rattle.std.specs.Map.{lookup}
use Rattle.std.specs.HashMap.Eq.{lookup_congr}
use Rattle.std.specs.Option.{option_and_then}
use Rattle.geo_maps.specs.Maps.{meaning_or, RoomFor, EachOf}
use Rattle.geo_maps.proofs.Entries.{each_entry, some_same}

module _ {M : Type 0} (z : M) (join : M → M → M) (assoc : (a b c : M) → join a (join b c) ≡ join (join a b) c) (comm : (a b : M) → join a b ≡ join b a) (same : (a : M) → join a a ≡ a) (left : (a : M) → join z a ≡ a) where
  -- a join is least only if both are
  pub joined_least : (a b : M) → join a b ≡ z → a ≡ z
  joined_least a b h = sym (left a) ∙ comm z a ∙ ap (join a) (sym h) ∙ assoc a a b ∙ ap (λ x. join x b) (same a) ∙ h

pub no_value : {V : Type 0} (R : V → V → Type 0) (s : Option V) → RoomFor R s None
no_value R None = tt
no_value R (Some u) = tt

module _ {V : Type 0} (R : V → V → Type 0) where
  -- b: whether the key is the one that is joined
  pub room_at : (b : Bool) (s s' o o' : Option V) (v : V) → o' ≡ cond b None o → (b ≡ false → s' ≡ s) → RoomFor R s o → RoomFor R s' o'
  room_at true s s' o o' v p q r = subst (λ x. RoomFor R s' x) (sym p) (no_value R s')
  room_at false s s' o o' v p q r = subst₂ (λ x y. RoomFor R x y) (sym (q refl)) (sym p) r

module _ {V M : Type 0} (z : M) (mean : V → M) (join : M → M → M) (right : (a : M) → join a z ≡ a) where
  -- what was joined, with what is left, is the whole
  pub joined_at : (b : Bool) (s' : M) (s : M) (o o' : Option V) (v : V) (w : M) → w ≡ mean v → o' ≡ cond b None o → s' ≡ cond b (join s w) s → (b ≡ true → o ≡ Some v)
      → join s' (meaning_or z mean o') ≡ join s (meaning_or z mean o)
  joined_at true s' s o o' v w is p q own = (λ i. join (q i) (meaning_or z mean (p i))) ∙ right (join s w) ∙ ap (join s) is ∙ ap (λ x. join s (meaning_or z mean x)) (sym (own refl))
  joined_at false s' s o o' v w is p q own = λ i. join (q i) (meaning_or z mean (p i))

module _ {K V : Type 0} (R : V → V → Type 0) (eq : K → K → Bool) (laws : IsEquivalence eq) where
  -- room at each entry is room at each key
  pub room_everywhere : (es fs : List (K × V)) (n : ℕ) → length fs ≤ n → EachOf (λ k v. RoomFor R (lookup (eq k) es) (Some v)) fs n → (q : K) → RoomFor R (lookup (eq q) es) (lookup (eq q) fs)
  room_everywhere es fs n le each q = by (lookup (eq q) fs) refl
    where
      by : (o : Option V) → lookup (eq q) fs ≡ o → RoomFor R (lookup (eq q) es) o
      by None p = no_value R (lookup (eq q) es)
      by (Some v) p =
          let e = each_entry (λ k v. RoomFor R (lookup (eq k) es) (Some v)) fs n le each (eq q) v p in
          subst (λ s. RoomFor R s (Some v)) (sym (lookup_congr eq laws.congr es q e.0 e.1)) e.2

module _ {K V W M : Type 0} (z : M) (mine : V → M) (mean : W → M) (join : M → M → M) (right : (a : M) → join a z ≡ a) (eq : K → K → Bool) (laws : IsEquivalence eq) where
  -- what is covered at each entry is covered at each key
  pub covered_everywhere : (es : List (K × V)) (fs : List (K × W)) (n : ℕ) → length fs ≤ n
      → EachOf (λ k w. join (meaning_or z mine (lookup (eq k) es)) (mean w) ≡ meaning_or z mine (lookup (eq k) es)) fs n
      → (q : K) → join (meaning_or z mine (lookup (eq q) es)) (meaning_or z mean (lookup (eq q) fs)) ≡ meaning_or z mine (lookup (eq q) es)
  covered_everywhere es fs n le each q = by (lookup (eq q) fs) refl
    where
      by : (o : Option W) → lookup (eq q) fs ≡ o → join (meaning_or z mine (lookup (eq q) es)) (meaning_or z mean o) ≡ meaning_or z mine (lookup (eq q) es)
      by None p = right _
      by (Some w) p =
          let e = each_entry (λ k w. join (meaning_or z mine (lookup (eq k) es)) (mean w) ≡ meaning_or z mine (lookup (eq k) es)) fs n le each (eq q) w p in
          subst (λ s. join (meaning_or z mine s) (mean w) ≡ meaning_or z mine s) (sym (lookup_congr eq laws.congr es q e.0 e.1)) e.2

-- an entry is the value at its key, and has room
abbrev pub OwnRoom : {K V : Type 0} → (V → V → Type 0) → (K → K → Bool) → List (K × V) → List (K × V) → K → V → Type 0
OwnRoom R eq es fs k v = (lookup (eq k) fs ≡ Some v) × RoomFor R (lookup (eq k) es) (Some v)

module _ {K V : Type 0} (R : V → V → Type 0) (eq : K → K → Bool) (laws : IsEquivalence eq) (es es' fs : List (K × V)) (i : ℕ) (ki : K) (vi : V) where
  pub next_room : Some (ki, vi) ≡ slice_get fs i → lookup (eq ki) fs ≡ Some vi → RoomFor R (lookup (eq ki) es') (Some vi)
      → ((q : K) → eq ki q ≡ false → lookup (eq q) es' ≡ lookup (eq q) es)
      → EachOf (OwnRoom R eq es fs) fs i → EachOf (OwnRoom R eq es' fs) fs (i + 1)
  next_room at own room others each j k v lt is = by (cases_at j i) (cases_Bool (eq ki k))
    where
      cases_at : (j i : ℕ) → (j ≡ i) ⊎ (j ≢ i)
      cases_at j i = cases_eq j i

      by : (j ≡ i) ⊎ (j ≢ i) → (eq ki k ≡ true) ⊎ (eq ki k ≡ false) → OwnRoom R eq es' fs k v
      by (inl e) b = let p : (ki, vi) ≡ (k, v) = some_same (at ∙ subst (λ n. slice_get fs n ≡ Some (k, v)) e is) in
          subst (λ (p : K × V). OwnRoom R eq es' fs p.0 p.1) p (own, room)
      by (inr ne) (inr miss) = let below : j < i = omega arith in
          let h = each j k v below is in (h.0, subst (λ s. RoomFor R s (Some v)) (sym (others k miss)) h.1)
      by (inr ne) (inl hit) = let below : j < i = omega arith in
          let h = each j k v below is in
          let same : vi ≡ v = some_same (sym own ∙ lookup_congr eq laws.congr fs ki k hit ∙ h.0) in
          (h.0, subst₂ (λ s x. RoomFor R s (Some x)) (lookup_congr eq laws.congr es' ki k hit) same room)

-- with room made at one key there is room at each key where there was
pub room_stays : {K V : Type 0} (R : V → V → Type 0) (eq : K → K → Bool) → IsEquivalence eq → (es es' fs : List (K × V)) (k : K) (v : V) → lookup (eq k) fs ≡ Some v → RoomFor R (lookup (eq k) es') (Some v)
    → ((q : K) → eq k q ≡ false → lookup (eq q) es' ≡ lookup (eq q) es)
    → ((q : K) → RoomFor R (lookup (eq q) es) (lookup (eq q) fs)) → (q : K) → RoomFor R (lookup (eq q) es') (lookup (eq q) fs)
room_stays R eq laws es es' fs k v own room others each q = by (cases_Bool (eq k q))
  where
    by : (eq k q ≡ true) ⊎ (eq k q ≡ false) → RoomFor R (lookup (eq q) es') (lookup (eq q) fs)
    by (inl hit) = subst₂ (λ s x. RoomFor R s x) (lookup_congr eq laws.congr es' k q hit) (sym own ∙ lookup_congr eq laws.congr fs k q hit) room
    by (inr miss) = subst (λ s. RoomFor R s (lookup (eq q) fs)) (sym (others q miss)) (each q)

pub drop_own : {K V : Type 0} (R : V → V → Type 0) (eq : K → K → Bool) (es fs : List (K × V)) (n : ℕ) → EachOf (OwnRoom R eq es fs) fs n → EachOf (λ k v. RoomFor R (lookup (eq k) es) (Some v)) fs n
drop_own R eq es fs n each j k v lt is = (each j k v lt is).1

-- what is shown of a value means the same by way of the entry
pub shown_means : {V W M : Type 0} (z : M) (mean : W → M) (show : V → Option W) (o : Option V) → meaning_or z (λ (v : V). meaning_or z mean (show v)) o ≡ meaning_or z mean (option_and_then show o)
shown_means z mean show None = refl
shown_means z mean show (Some v) = refl

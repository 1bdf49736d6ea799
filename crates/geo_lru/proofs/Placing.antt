-- Where COLD's items stand and which of the active ones are filed, before and after each change of the list.
use Rattle.std.proofs.Common.{◌≡◌, ℕ, ◌+◌, ◌-◌, ◌^◌, ◌≤◌, ◌<◌, ◌&&◌, Bool, true, false, nat_eq, cond, List, [], ◌∷◌, ◌++◌, length, reverse, Option, Some, None, IsSome, refl, sym, ap, ◌∙◌, subst, append_assoc, ⊎_elim, inl, inr, arith, true≢false}
use Rattle.std.proofs.lemmas.List.{reverse-append, take_all}
use Rattle.std.proofs.lemmas.List.Elements.{Contains-push, Contains-push_cases, Contains-append_left, Contains-append_right}
use Rattle.std.proofs.lemmas.Map.Keys.{le_from_not_gt}
use Rattle.std.proofs.lemmas.Map.Views.{lookup-from_Contains}
use Rattle.std.proofs.lemmas.Bool.{eqb-true}
use Rattle.std.specs.List.{find, Contains, IsDistinct}
use Rattle.std.specs.Map.{lookup, lookup_entry, keys_of, set_value, remove_entry}
use Rattle.lru.specs.LruCache.{LruCache, put_entries}
use Rattle.std.specs.Option.{option_map}
use Rattle.std.specs.BTreeMap.{BTreeMap, get}
use Rattle.std.proofs.lemmas.Map.Made.{lookup-map_values}
use Rattle.std.specs.Ordering.{nat_cmp, is_eq, is_gt}
use Rattle.std.specs.declared.cmp.Ordering.TheVariants.{Less, Equal, Greater}
use Rattle.std.specs.Cmp.{nat_cmp_is, nat_eq_equiv}
use Rattle.std.proofs.lemmas.Cmp.{ranked}
use Rattle.geo_lru.specs.declared.access.Access.{Access}
use Rattle.geo_lru.specs.declared.cold.Placed.{Placed}
use Rattle.geo_lru.specs.Lists.{present, last_active, touched, touched_in, active_count}
use Rattle.geo_lru.proofs.Places.{absent}
use Rattle.geo_lru.proofs.Tallies.{active-cons, active-set_value, active-without, one, none}
use Rattle.geo_lru.specs.Placed.{seen, Falling, EachActive, IsIndexed, IsFiled, IsPlaced, active_there}

abbrev Items : Type 0
Items = List (ℕ × Placed)

abbrev shown : ℕ × Placed → ℕ × Access
shown e = (e.0, e.1.access)

pub seen-set : (i : ℕ) (es : Items) (w : Placed) → seen (set_value (nat_eq i) es w) ≡ set_value (nat_eq i) (seen es) w.access
seen-set i [] w = refl
seen-set i (e ∷ es) w = elim (nat_eq i e.0) as (λ b. seen (cond b ((e.0, w) ∷ es) (e ∷ set_value (nat_eq i) es w)) ≡ cond b ((e.0, w.access) ∷ seen es) (shown e ∷ set_value (nat_eq i) (seen es) w.access)) [
  | true ↦ refl
  | false ↦ ap (λ l. shown e ∷ l) (seen-set i es w)
]

pub seen-remove : (i : ℕ) (es : Items) → seen (remove_entry (nat_eq i) es) ≡ remove_entry (nat_eq i) (seen es)
seen-remove i [] = refl
seen-remove i (e ∷ es) = elim (nat_eq i e.0) as (λ b. seen (cond b es (e ∷ remove_entry (nat_eq i) es)) ≡ cond b (seen es) (shown e ∷ remove_entry (nat_eq i) (seen es))) [
  | true ↦ refl
  | false ↦ ap (λ l. shown e ∷ l) (seen-remove i es)
]

-- places
pub falling-more : (b c : ℕ) (es : Items) → b ≤ c → Falling b es → Falling c es
falling-more b c [] le h = tt
falling-more b c (e ∷ es) le h = (omega (arith, h.0, le), h.1)

pub falling-set : (b i : ℕ) (es : Items) (v w : Placed) → lookup (nat_eq i) es ≡ Some v → w.place ≡ v.place → Falling b es → Falling b (set_value (nat_eq i) es w)
falling-set b i [] v w there same h = tt
falling-set b i (e ∷ es) v w there same h = (elim (nat_eq i e.0) as (λ y. nat_eq i e.0 ≡ y → Falling b (cond y ((e.0, w) ∷ es) (e ∷ set_value (nat_eq i) es w))) [
  | true ↦ λ t. let there' = rw t at there in let is : e.1 ≡ v = cc in let at : e.1.place ≡ w.place = ap (λ (p : Placed). p.place) is ∙ sym same in
      subst (λ p. (p < b) × Falling p es) at h
  | false ↦ λ t. (h.0, falling-set e.1.place i es v w (rw t at there) same h.1)
]) refl

pub falling-remove : (b i : ℕ) (es : Items) → Falling b es → Falling b (remove_entry (nat_eq i) es)
falling-remove b i [] h = tt
falling-remove b i (e ∷ es) h = elim (nat_eq i e.0) as (λ y. Falling b (cond y es (e ∷ remove_entry (nat_eq i) es))) [
  | true ↦ falling-more e.1.place b es (omega (arith, h.0)) h.1
  | false ↦ (h.0, falling-remove e.1.place i es h.1)
]

pub removed-absent : (i : ℕ) (es : Items) → lookup (nat_eq i) es ≡ None → remove_entry (nat_eq i) es ≡ es
removed-absent i [] none = refl
removed-absent i (e ∷ es) none = (elim (nat_eq i e.0) as (λ y. nat_eq i e.0 ≡ y → cond y es (e ∷ remove_entry (nat_eq i) es) ≡ e ∷ es) [
  | true ↦ λ t. let none' = rw t at none in cc
  | false ↦ λ t. ap (λ l. e ∷ l) (removed-absent i es (rw t at none))
]) refl

-- comparisons
equal : (x y : ℕ) → is_eq (nat_cmp x y) ≡ true → x ≡ y
equal x y h = (elim (nat_cmp x y) as (λ r. r ≡ nat_cmp x y → is_eq r ≡ true → x ≡ y) [
  | Less ↦ λ e t. cc
  | Equal ↦ λ e t. ranked x y Equal e
  | Greater ↦ λ e t. cc
]) refl h

equal-self : (x : ℕ) → is_eq (nat_cmp x x) ≡ true
equal-self x = ap is_eq (sym (nat_cmp_is x x Equal refl))

above : (x y : ℕ) → y < x → is_gt (nat_cmp x y) ≡ true
above x y lt = ap is_gt (sym (nat_cmp_is x y Greater lt))

-- each active item
pub each-more : (P Q : ℕ → ℕ → Type 0) (es : Items) → ((q i : ℕ) → P q i → Q q i) → EachActive P es → EachActive Q es
each-more P Q [] more h = tt
each-more P Q (e ∷ es) more h = ((λ on. more e.1.place e.0 (h.0 on)), each-more P Q es more h.1)

pub each-both : (P Q R : ℕ → ℕ → Type 0) (es : Items) → ((q i : ℕ) → P q i → Q q i → R q i) → EachActive P es → EachActive Q es → EachActive R es
each-both P Q R [] both h k = tt
each-both P Q R (e ∷ es) both h k = ((λ on. both e.1.place e.0 (h.0 on) (k.0 on)), each-both P Q R es both h.1 k.1)

-- where none is active, each is as one likes
pub each-idle : (P : ℕ → ℕ → Type 0) (es : Items) → active_count (seen es) ≡ 0 → EachActive P es
each-idle P [] h = tt
each-idle P (e ∷ es) h =
    ((λ on. absurd (omega (arith, h, active-cons e.0 e.1.access (seen es), one e.1.access.active on))), each-idle P es (omega (arith, h, active-cons e.0 e.1.access (seen es))))

pub each-set : (P : ℕ → ℕ → Type 0) (i : ℕ) (es : Items) (w : Placed) → (w.access.active ≡ true → P w.place i) → EachActive P es → EachActive P (set_value (nat_eq i) es w)
each-set P i [] w this h = tt
each-set P i (e ∷ es) w this h = (elim (nat_eq i e.0) as (λ y. nat_eq i e.0 ≡ y → EachActive P (cond y ((e.0, w) ∷ es) (e ∷ set_value (nat_eq i) es w))) [
  | true ↦ λ t. ((λ on. subst (λ k. P w.place k) (eqb-true i e.0 t) (this on)), h.1)
  | false ↦ λ t. (h.0, each-set P i es w this h.1)
]) refl

pub each-remove : (P : ℕ → ℕ → Type 0) (i : ℕ) (es : Items) → EachActive P es → EachActive P (remove_entry (nat_eq i) es)
each-remove P i [] h = tt
each-remove P i (e ∷ es) h = elim (nat_eq i e.0) as (λ y. EachActive P (cond y es (e ∷ remove_entry (nat_eq i) es))) [
  | true ↦ h.1
  | false ↦ (h.0, each-remove P i es h.1)
]

pub each-found : (P : ℕ → ℕ → Type 0) (i : ℕ) (es : Items) (v : Placed) → lookup (nat_eq i) es ≡ Some v → v.access.active ≡ true → EachActive P es → P v.place i
each-found P i [] v there on h = cc
each-found P i (e ∷ es) v there on h = (elim (nat_eq i e.0) as (λ y. nat_eq i e.0 ≡ y → P v.place i) [
  | true ↦ λ t. let there' = rw t at there in let is : e.1 ≡ v = cc in
      let same : i ≡ e.0 = eqb-true i e.0 t in rw same (subst (λ (p : Placed). P p.place e.0) is (h.0 (ap (λ (p : Placed). p.access.active) is ∙ on)))
  | false ↦ λ t. each-found P i es v (rw t at there) on h.1
]) refl

-- the active item nearest the tail
abbrev orelse : Option (ℕ × Access) → Option (ℕ × Access) → Option (ℕ × Access)
orelse None o = o
orelse (Some x) o = Some x

abbrev own : ℕ × Access → Option (ℕ × Access)
own e = cond e.1.active (Some e) None

find-pushed : (xs : List (ℕ × Access)) (y : ℕ × Access) → find (λ e. e.1.active) (xs ++ y ∷ []) ≡ orelse (find (λ e. e.1.active) xs) (own y)
find-pushed [] y = refl
find-pushed (x ∷ xs) y = elim x.1.active as (λ b. cond b (Some x) (find (λ e. e.1.active) (xs ++ y ∷ [])) ≡ orelse (cond b (Some x) (find (λ e. e.1.active) xs)) (own y)) [
  | true ↦ refl
  | false ↦ find-pushed xs y
]

last-cons : (e : ℕ × Placed) (es : Items) → last_active (seen (e ∷ es)) ≡ orelse (last_active (seen es)) (own (shown e))
last-cons e es = rw (reverse-append (shown e ∷ []) (seen es)) (find-pushed (reverse (seen es)) (shown e))

own-on : (y : Bool) (x : Option (ℕ × Access)) (f : ℕ × Access) → y ≡ true → x ≡ Some f → cond y x None ≡ Some f
own-on true x f on is = is
own-on false x f on is = cc

-- where all active items stand above all items, none is active
none-active : (b : ℕ) (es : Items) → Falling b es → EachActive (λ q _. b ≤ q) es → last_active (seen es) ≡ None
none-active b [] h up = refl
none-active b (e ∷ es) h up = (elim e.1.access.active as (λ y. e.1.access.active ≡ y → last_active (seen (e ∷ es)) ≡ None) [
  | true ↦ λ t. absurd (omega (arith, h.0, up.0 t))
  | false ↦ λ t. last-cons e es ∙ rw (none-active e.1.place es h.1 (each-more (λ q _. b ≤ q) (λ q _. e.1.place ≤ q) es (λ q _ le. omega (arith, le, h.0)) up.1), t) refl
]) refl

-- the one at the lowest place of the active items is it
pub lowest-active : (b i : ℕ) (es : Items) (v : Placed) → Falling b es → lookup (nat_eq i) es ≡ Some v → v.access.active ≡ true → EachActive (λ q _. v.place ≤ q) es
    → last_active (seen es) ≡ Some (i, v.access)
lowest-active b i [] v h there on up = cc
lowest-active b i (e ∷ es) v h there on up = (elim (nat_eq i e.0) as (λ y. nat_eq i e.0 ≡ y → last_active (seen (e ∷ es)) ≡ Some (i, v.access)) [
  | true ↦ λ t. let there' = rw t at there in let is : e.1 ≡ v = cc in let same : i ≡ e.0 = eqb-true i e.0 t in
      let at : e.1.place ≡ v.place = ap (λ (p : Placed). p.place) is in
      let nobody : last_active (seen es) ≡ None = none-active e.1.place es h.1 (subst (λ k. EachActive (λ q _. k ≤ q) es) (sym at) up.1) in
      last-cons e es ∙ ap (λ o. orelse o (own (shown e))) nobody
      ∙ own-on e.1.access.active (Some (shown e)) (i, v.access) (ap (λ (p : Placed). p.access.active) is ∙ on) (rw (same, is) refl)
  | false ↦ λ t. last-cons e es ∙ ap (λ o. orelse o (own (shown e))) (lowest-active e.1.place i es v h.1 (rw t at there) on up.1)
]) refl

-- an index without entries has no active item
pub none-indexed : (m : BTreeMap ℕ ℕ) (es : Items) → m.entries ≡ [] → EachActive (IsIndexed m) es → last_active (seen es) ≡ None
none-indexed m [] is h = refl
none-indexed m (e ∷ es) is h = (elim e.1.access.active as (λ y. e.1.access.active ≡ y → last_active (seen (e ∷ es)) ≡ None) [
  | true ↦ λ t. let there : get nat_cmp m e.1.place ≡ Some e.0 = h.0 t in let none : get nat_cmp m e.1.place ≡ None = ap (lookup (λ k. is_eq (nat_cmp e.1.place k))) is in cc
  | false ↦ λ t. last-cons e es ∙ rw (none-indexed m es is h.1, t) refl
]) refl

pub no-entries : {X : Type 0} (es : List X) → (0 < length es → ⊥) → es ≡ []
no-entries [] h = refl
no-entries (e ∷ es) h = absurd (h (omega arith))

-- where the index has an item lowest, no active item stands lower
pub lowest-indexed : (m : BTreeMap ℕ ℕ) (p : ℕ) (es : Items) → ((q : ℕ) → IsSome (get nat_cmp m q) → is_gt (nat_cmp p q) ≡ false) → EachActive (IsIndexed m) es → EachActive (λ q _. p ≤ q) es
lowest-indexed m p es low h = each-more (IsIndexed m) (λ q _. p ≤ q) es (λ q i is. le_from_not_gt p q (low q (subst IsSome (sym is) refl))) h

-- an item that was looked up, where it is active and stands at a place
pub there-found : (p : ℕ) (o : Option Placed) (a : Access) → active_there p o ≡ Some a → (v : Placed) × (o ≡ Some v) × (v.place ≡ p) × (v.access.active ≡ true) × (v.access ≡ a)
there-found p None a h = cc
there-found p (Some v) a h = (elim (nat_eq v.place p) as (λ y. nat_eq v.place p ≡ y → cond (y && v.access.active) (Some v.access) None ≡ Some a → (u : Placed) × (Some v ≡ Some u) × (u.place ≡ p) × (u.access.active ≡ true) × (u.access ≡ a)) [
  | false ↦ λ t k. cc
  | true ↦ λ t k. (elim v.access.active as (λ y. v.access.active ≡ y → cond y (Some v.access) None ≡ Some a → (u : Placed) × (Some v ≡ Some u) × (u.place ≡ p) × (u.access.active ≡ true) × (u.access ≡ a)) [
    | false ↦ λ on k. cc
    | true ↦ λ on k. (v, refl, eqb-true v.place p t, on, cc)
  ]) refl k
]) refl h

there-missing : (p : ℕ) (v : Placed) → active_there p (Some v) ≡ None → v.access.active ≡ true → v.place ≡ p → ⊥
there-missing p v h on at = let k = rw (at, on, nat_eq_equiv.refl p) at h in cc

-- nobody else is active at the place of an item that is stale there
pub each-here : (P : ℕ → ℕ → Type 0) (es : Items) → ((e : ℕ × Placed) → Contains es e → e.1.access.active ≡ true → P e.1.place e.0) → EachActive P es
each-here P [] h = tt
each-here P (e ∷ es) h = (h e (0, omega arith, refl), each-here P es (λ f here. h f (Contains-append_right (e ∷ []) es f here)))

each-out : (m m' : BTreeMap ℕ ℕ) (p i q j : ℕ) → get nat_cmp m p ≡ Some i → ((r : ℕ) → get nat_cmp m' r ≡ cond (is_eq (nat_cmp p r)) None (get nat_cmp m r)) → (q ≡ p → j ≡ i → ⊥) → IsIndexed m q j → IsIndexed m' q j
each-out m m' p i q j there out other has = out q ∙ (elim (is_eq (nat_cmp p q)) as (λ y. is_eq (nat_cmp p q) ≡ y → cond y None (get nat_cmp m q) ≡ Some j) [
  | true ↦ λ t. let at : p ≡ q = equal p q t in
      let has' : get nat_cmp m p ≡ Some j = subst (λ k. get nat_cmp m k ≡ Some j) (sym at) has in let same : j ≡ i = cc in absurd (other (sym at) same)
  | false ↦ λ t. has
]) refl

pub each-stale : (m m' : BTreeMap ℕ ℕ) (p i : ℕ) (es : Items) → IsDistinct nat_eq (keys_of es) → get nat_cmp m p ≡ Some i → active_there p (lookup (nat_eq i) es) ≡ None
    → ((q : ℕ) → get nat_cmp m' q ≡ cond (is_eq (nat_cmp p q)) None (get nat_cmp m q)) → EachActive (IsIndexed m) es → EachActive (IsIndexed m') es
each-stale m m' p i es distinct there stale out h =
    let alone : EachActive (λ q j. q ≡ p → j ≡ i → ⊥) es = each-here (λ q j. q ≡ p → j ≡ i → ⊥) es (λ e here on at same.
    let found : lookup (nat_eq e.0) es ≡ Some e.1 = lookup-from_Contains nat_eq_equiv e.0 e.1 es distinct here in
    there-missing p e.1 (ap (active_there p) (sym (subst (λ k. lookup (nat_eq k) es ≡ Some e.1) same found)) ∙ stale) on at) in
    each-both (λ q j. q ≡ p → j ≡ i → ⊥) (IsIndexed m) (IsIndexed m') es (λ q j other has. each-out m m' p i q j there out other has) alone h

-- the walk from the tail
pub walked : (es rest rest' past : Items) (e : ℕ × Placed) → es ≡ rest ++ past → rest ≡ rest' ++ e ∷ [] → es ≡ rest' ++ (e ∷ past)
walked es rest rest' past e is step = is ∙ ap (λ l. l ++ past) step ∙ append_assoc rest' (e ∷ []) past

pub passed-noted : (ns ns' : List (ℕ × ℕ)) (e : ℕ × Placed) (past : Items) → ns' ≡ ns ++ (e.1.place, e.0) ∷ [] → EachActive (λ q i. Contains ns (q, i)) past → EachActive (λ q i. Contains ns' (q, i)) (e ∷ past)
passed-noted ns ns' e past is h = (
  (λ _. subst (λ l. Contains l (e.1.place, e.0)) (sym is) (Contains-push ns (e.1.place, e.0))),
  each-more (λ q i. Contains ns (q, i)) (λ q i. Contains ns' (q, i)) past (λ q i k. subst (λ l. Contains l (q, i)) (sym is) (Contains-append_left ns ((e.1.place, e.0) ∷ []) (q, i) k)) h,
)

-- what is filed
pub filed-popped : (ns rest : List (ℕ × ℕ)) (p j : ℕ) (m m' : BTreeMap ℕ ℕ) → ns ≡ rest ++ (p, j) ∷ [] → get nat_cmp m p ≡ None
    → ((r : ℕ) → get nat_cmp m' r ≡ cond (is_eq (nat_cmp p r)) (Some j) (get nat_cmp m r)) → (q i : ℕ) → IsFiled ns m q i → IsFiled rest m' q i
filed-popped ns rest p j m m' is free put q i = ⊎_elim
    (λ noted. ⊎_elim (λ still. inl still)
    (λ (this : (p, j) ≡ (q, i)). let at : p ≡ q = ap (λ (n : ℕ × ℕ). n.0) this in let same : j ≡ i = ap (λ (n : ℕ × ℕ). n.1) this in
    inr (put q ∙ rw (← at, equal-self p, same) refl))
    (Contains-push_cases rest (p, j) (q, i) (subst (λ l. Contains l (q, i)) is noted)))
    (λ (has : get nat_cmp m q ≡ Some i). inr (put q ∙ (elim (is_eq (nat_cmp p q)) as (λ y. is_eq (nat_cmp p q) ≡ y → cond y (Some j) (get nat_cmp m q) ≡ Some i) [
      | true ↦ λ t. let at : p ≡ q = equal p q t in let has' : get nat_cmp m p ≡ Some i = subst (λ k. get nat_cmp m k ≡ Some i) (sym at) has in cc
      | false ↦ λ t. has
    ]) refl))

pub filed-empty : (m : BTreeMap ℕ ℕ) (q i : ℕ) → IsFiled [] m q i → IsIndexed m q i
filed-empty m q i = ⊎_elim (λ noted. absurd (omega (arith, noted.1))) (λ has. has)

-- what is seen of the list
pub seen-found : (i : ℕ) (es : Items) (v : Placed) → lookup (nat_eq i) es ≡ Some v → lookup (nat_eq i) (seen es) ≡ Some v.access
seen-found i es v h = lookup-map_values (λ (p : Placed). p.access) (nat_eq i) es ∙ ap (option_map (λ (p : Placed). p.access)) h

pub seen-missing : (i : ℕ) (es : Items) → lookup (nat_eq i) es ≡ None → lookup (nat_eq i) (seen es) ≡ None
seen-missing i es h = lookup-map_values (λ (p : Placed). p.access) (nat_eq i) es ∙ ap (option_map (λ (p : Placed). p.access)) h

pub missing-seen : (i : ℕ) (es : Items) → lookup (nat_eq i) (seen es) ≡ None → lookup (nat_eq i) es ≡ None
missing-seen i es h = (elim (lookup (nat_eq i) es) as (λ o. option_map (λ (p : Placed). p.access) o ≡ None → o ≡ None) [
  | None ↦ λ k. refl
  | Some v ↦ λ k. cc
]) (sym (lookup-map_values (λ (p : Placed). p.access) (nat_eq i) es) ∙ h)

pub seen-touched : (i : ℕ) (es : Items) (v w : Placed) → lookup (nat_eq i) es ≡ Some v → w.access ≡ touched v.access → seen (set_value (nat_eq i) es w) ≡ touched_in i (seen es)
seen-touched i es v w there bits = seen-set i es w ∙ rw (seen-found i es v there, bits) refl

pub seen-untouched : (i : ℕ) (es : Items) → lookup (nat_eq i) es ≡ None → seen es ≡ touched_in i (seen es)
seen-untouched i es h = rw (seen-missing i es h) refl

-- the list after a hit that makes its item active, after another hit, after an item is gone, and after one came
module _ (es : Items) (cap next active : ℕ) (whole : Bool) (ns : List (ℕ × ℕ)) (index : BTreeMap ℕ ℕ) (h : IsPlaced es cap next active whole ns index) (i : ℕ) where
  pub placed-active : (v w : Placed) (whole' : Bool) (ns' : List (ℕ × ℕ)) → lookup (nat_eq i) es ≡ Some v → w.place ≡ v.place → v.access.active ≡ false → w.access.active ≡ true
      → (whole' ≡ true → whole ≡ true) → (whole' ≡ true → ns' ≡ ns ++ (v.place, i) ∷ []) → IsPlaced (set_value (nat_eq i) es w) cap next (active + 1) whole' ns' index
  placed-active v w whole' ns' there same off on was noted = record {
    tallied = record {
      unbounded = h.tallied.unbounded;
      tally = rw (seen-set i es w) (omega (arith, h.tallied.tally, active-set_value i (seen es) v.access w.access (seen-found i es v there), none v.access.active off, one w.access.active on));
    };
    falling = λ lt. falling-set next i es v w there same (h.falling lt);
    below = λ t. h.below (was t);
    each = λ t. let is : ns' ≡ ns ++ (v.place, i) ∷ [] = noted t in
        each-set (IsFiled ns' index) i es w (λ _. inl (subst (λ l. Contains l (w.place, i)) (sym is) (subst (λ q. Contains (ns ++ (v.place, i) ∷ []) (q, i)) (sym same) (Contains-push ns (v.place, i)))))
        (each-more (IsFiled ns index) (IsFiled ns' index) es (λ q j. ⊎_elim (λ k. inl (subst (λ l. Contains l (q, j)) (sym is) (Contains-append_left ns ((v.place, i) ∷ []) (q, j) k))) (λ k. inr k)) (h.each (was t)));
  }

  pub placed-kept : (v w : Placed) → lookup (nat_eq i) es ≡ Some v → w.place ≡ v.place → w.access.active ≡ v.access.active → IsPlaced (set_value (nat_eq i) es w) cap next active whole ns index
  placed-kept v w there same bits = record {
    tallied = record {
      unbounded = h.tallied.unbounded;
      tally = rw (seen-set i es w) (omega (arith, h.tallied.tally, active-set_value i (seen es) v.access w.access (seen-found i es v there), ap (λ b. cond {A = ℕ} b 1 0) bits));
    };
    falling = λ lt. falling-set next i es v w there same (h.falling lt);
    below = h.below;
    each = λ t. each-set (IsFiled ns index) i es w (λ on. subst (λ q. IsFiled ns index q i) (sym same) (each-found (IsFiled ns index) i es v there (sym bits ∙ on) (h.each t))) (h.each t);
  }

  pub placed-gone : (v : Placed) (active' : ℕ) → lookup (nat_eq i) es ≡ Some v → active' + cond v.access.active 1 0 ≡ active → IsPlaced (remove_entry (nat_eq i) es) cap next active' whole ns index
  placed-gone v active' there fewer = record {
    tallied = record { unbounded = h.tallied.unbounded; tally = rw (seen-remove i es) (omega (arith, h.tallied.tally, fewer, active-without i (seen es) v.access (seen-found i es v there))) };
    falling = λ lt. falling-remove next i es (h.falling lt);
    below = h.below;
    each = λ t. each-remove (IsFiled ns index) i es (h.each t);
  }

  pub placed-pushed : (w : Placed) → w.place ≡ next → w.access.active ≡ false → next + 1 < 2 ^ 64 - 1 → IsPlaced ((i, w) ∷ es) cap (next + 1) active whole ns index
  placed-pushed w at off lt = record {
    tallied = record { unbounded = h.tallied.unbounded; tally = omega (arith, h.tallied.tally, active-cons i w.access (seen es), none w.access.active off) };
    falling = λ _. (omega (arith, at), subst (λ b. Falling b es) (sym at) (h.falling (omega (arith, lt))));
    below = λ t. lt;
    each = λ t. ((λ on. absurd (true≢false (sym on ∙ off))), h.each t);
  }

  pub placed-last : (w : Placed) → w.access.active ≡ false → IsPlaced ((i, w) ∷ es) cap (2 ^ 64 - 1) active false ns index
  placed-last w off = record {
    tallied = record { unbounded = h.tallied.unbounded; tally = omega (arith, h.tallied.tally, active-cons i w.access (seen es), none w.access.active off) };
    falling = λ lt. absurd (omega (arith, lt));
    below = λ t. cc;
    each = λ t. cc;
  }

-- an item that is not in the list goes to its head
lookup_entry-none : (i : ℕ) (es : Items) → lookup (nat_eq i) es ≡ None → lookup_entry (nat_eq i) es ≡ None
lookup_entry-none i [] h = refl
lookup_entry-none i (e ∷ es) h = (elim (nat_eq i e.0) as (λ y. nat_eq i e.0 ≡ y → lookup_entry (nat_eq i) (e ∷ es) ≡ None) [
  | true ↦ λ t. let h' = rw t at h in cc
  | false ↦ λ t. rw t (lookup_entry-none i es (rw t at h))
]) refl

pub put-absent : (c : LruCache ℕ Placed) (i : ℕ) (w : Placed) → present i (seen c.entries) ≡ 0 → length c.entries ≤ c.cap - 1 → put_entries nat_eq c i w ≡ (i, w) ∷ c.entries
put-absent c i w h fits = rw (lookup_entry-none i c.entries (missing-seen i c.entries (absent i (seen c.entries) h)), take_all (c.cap - 1) c.entries fits) refl

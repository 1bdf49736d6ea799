-- Where an item stands, before and after each call.
use Rattle.std.proofs.Common.{◌≡◌, ℕ, zero, suc, ◌+◌, ◌-◌, ◌≤◌, Bool, true, false, nat_eq, cond, is_some, List, [], ◌∷◌, length, reverse, slice_get, Some, None, refl, sym, ap, ◌∙◌, arith}
use Rattle.std.proofs.lemmas.List.{take_all}
use Rattle.std.proofs.lemmas.List.Sums.{sum_by-cons}
use Rattle.std.proofs.lemmas.Bool.{eqb-true}
use Rattle.std.proofs.lemmas.Map.{keys-set_value}
use Rattle.std.specs.Cmp.{nat_eq_equiv}
use Rattle.std.specs.List.{count_by, find}
use Rattle.std.specs.Option.{option_map_or}
use Rattle.std.specs.Map.{lookup, lookup_entry, keys_of, set_value}
use Rattle.lru.specs.LruCache.{LruCache, put_entries, promoted, last_entry}
use Rattle.geo_lru.proofs.Reversed.{sum_by-reverse}
use Rattle.geo_lru.proofs.Tallies.{one, none}
use Rattle.geo_lru.specs.declared.access.Access.{Access}
use Rattle.geo_lru.specs.Lists.{present, touched, touched_in, without, last_active}

pub present-cons : (k i : ℕ) (a : Access) (es : List (ℕ × Access)) → present k ((i, a) ∷ es) ≡ cond (nat_eq k i) 1 0 + present k es
present-cons k i a es = sum_by-cons (λ x. cond (nat_eq k x) 1 0) i (keys_of es)

pub present-touched_in : (k i : ℕ) (es : List (ℕ × Access)) → present k (touched_in i es) ≡ present k es
present-touched_in k i es = elim (lookup (nat_eq i) es) as (λ o. present k (option_map_or (λ a. set_value (nat_eq i) es (touched a)) o es) ≡ present k es) [
  | None ↦ refl
  | Some a ↦ ap (count_by (nat_eq k)) (keys-set_value (nat_eq i) es (touched a))
]

other : (k i j : ℕ) → nat_eq i j ≡ false → cond (nat_eq k i) 1 0 + cond (nat_eq k j) 1 0 ≤ 1
other k i j h = (elim (nat_eq k i) as (λ b. nat_eq k i ≡ b → cond b 1 0 + cond (nat_eq k j) 1 0 ≤ 1) [
  | true ↦ λ t. let same : k ≡ i = eqb-true k i t in rw (same, h) (omega arith)
  | false ↦ λ _. elim (nat_eq k j) as (λ b. 0 + cond b 1 0 ≤ 1) [ true ↦ omega arith | false ↦ omega arith ]
]) refl

pub present-without : (k i : ℕ) (es : List (ℕ × Access)) → present k (without i es) ≡ present k es - cond (nat_eq k i) 1 0
present-without k i [] = elim (nat_eq k i) as (λ b. 0 ≡ 0 - cond b 1 0) [ true ↦ refl | false ↦ refl ]
present-without k i (e ∷ es) = (elim (nat_eq i e.0) as (λ y. nat_eq i e.0 ≡ y → present k (cond y es (e ∷ without i es)) ≡ present k (e ∷ es) - cond (nat_eq k i) 1 0) [
  | true ↦ λ t. let same : i ≡ e.0 = eqb-true i e.0 t in rw (same, present-cons k e.0 e.1 es) (omega arith)
  | false ↦ λ t. omega (arith, present-cons k e.0 e.1 es, present-cons k e.0 e.1 (without i es), present-without k i es, other k i e.0 t)
]) refl

-- what a look-up finds stands in the list, and nothing else does
pub found : (i : ℕ) (es : List (ℕ × Access)) → is_some (lookup (nat_eq i) es) ≡ true → 1 ≤ present i es
found i [] h = cc
found i (e ∷ es) h = rw (present-cons i e.0 e.1 es) ((elim (nat_eq i e.0) as (λ y. nat_eq i e.0 ≡ y → 1 ≤ cond y 1 0 + present i es) [
  | true ↦ λ _. omega arith
  | false ↦ λ t. omega (arith, found i es (rw t at h))
]) refl)

pub absent : (i : ℕ) (es : List (ℕ × Access)) → present i es ≡ 0 → lookup (nat_eq i) es ≡ None
absent i [] h = refl
absent i (e ∷ es) h = (elim (nat_eq i e.0) as (λ y. nat_eq i e.0 ≡ y → cond y (Some e.1) (lookup (nat_eq i) es) ≡ None) [
  | true ↦ λ t. let here : cond (nat_eq i e.0) 1 0 + present i es ≡ 0 = sym (present-cons i e.0 e.1 es) ∙ h in absurd (omega (arith, rw t at here))
  | false ↦ λ t. let here : cond (nat_eq i e.0) 1 0 + present i es ≡ 0 = sym (present-cons i e.0 e.1 es) ∙ h in absent i es (omega (arith, rw t at here))
]) refl

pub missing : (i : ℕ) (es : List (ℕ × Access)) → is_some (lookup (nat_eq i) es) ≡ false → present i es ≡ 0
missing i [] h = refl
missing i (e ∷ es) h = rw (present-cons i e.0 e.1 es) ((elim (nat_eq i e.0) as (λ y. nat_eq i e.0 ≡ y → cond y 1 0 + present i es ≡ 0) [
  | true ↦ λ t. let h' = rw t at h in cc
  | false ↦ λ t. omega (arith, missing i es (rw t at h))
]) refl)

pub touched-absent : (i : ℕ) (es : List (ℕ × Access)) → present i es ≡ 0 → touched_in i es ≡ es
touched-absent i es h = rw (absent i es h) refl

pub without-absent : (i : ℕ) (es : List (ℕ × Access)) → present i es ≡ 0 → without i es ≡ es
without-absent i [] h = refl
without-absent i (e ∷ es) h = (elim (nat_eq i e.0) as (λ y. nat_eq i e.0 ≡ y → cond y es (e ∷ without i es) ≡ e ∷ es) [
  | true ↦ λ t. let here : cond (nat_eq i e.0) 1 0 + present i es ≡ 0 = sym (present-cons i e.0 e.1 es) ∙ h in absurd (omega (arith, rw t at here))
  | false ↦ λ t. let here : cond (nat_eq i e.0) 1 0 + present i es ≡ 0 = sym (present-cons i e.0 e.1 es) ∙ h in ap (λ l. e ∷ l) (without-absent i es (omega (arith, rw t at here)))
]) refl

-- an item that is not in a list goes to its head
lookup_entry-none : (i : ℕ) (es : List (ℕ × Access)) → lookup (nat_eq i) es ≡ None → lookup_entry (nat_eq i) es ≡ None
lookup_entry-none i [] h = refl
lookup_entry-none i (e ∷ es) h = (elim (nat_eq i e.0) as (λ y. nat_eq i e.0 ≡ y → lookup_entry (nat_eq i) (e ∷ es) ≡ None) [
  | true ↦ λ t. let h' = rw t at h in cc
  | false ↦ λ t. rw t (lookup_entry-none i es (rw t at h))
]) refl

lookup_entry-some : (i : ℕ) (es : List (ℕ × Access)) (a : Access) → lookup (nat_eq i) es ≡ Some a → lookup_entry (nat_eq i) es ≡ Some (i, a)
lookup_entry-some i [] a h = cc
lookup_entry-some i (e ∷ es) a h = (elim (nat_eq i e.0) as (λ y. nat_eq i e.0 ≡ y → lookup_entry (nat_eq i) (e ∷ es) ≡ Some (i, a)) [
  | true ↦ λ t. let h' = rw t at h in let bits : e.1 ≡ a = cc in rw (t, bits, eqb-true i e.0 t) refl
  | false ↦ λ t. rw t (lookup_entry-some i es a (rw t at h))
]) refl

pub put_entries-absent : (c : LruCache ℕ Access) (i : ℕ) (a : Access) → present i c.entries ≡ 0 → length c.entries ≤ c.cap - 1
    → put_entries nat_eq c i a ≡ (i, a) ∷ c.entries
put_entries-absent c i a h fits = rw (lookup_entry-none i c.entries (absent i c.entries h), take_all (c.cap - 1) c.entries fits) refl

-- what an item is found to have, moved to the head of its own list
promoted-there : (i : ℕ) (es : List (ℕ × Access)) (a : Access) → lookup (nat_eq i) es ≡ Some a → promoted (nat_eq i) es ≡ (i, a) ∷ without i es
promoted-there i es a h = rw (lookup_entry-some i es a h) refl

pub brought : (i : ℕ) (es : List (ℕ × Access)) (a b : Access) → lookup (nat_eq i) es ≡ Some a → set_value (nat_eq i) (promoted (nat_eq i) es) b ≡ (i, b) ∷ without i es
brought i es a b h = rw (promoted-there i es a h, nat_eq_equiv.refl i) refl

-- the tail and the active item nearest it stand in their list
present-at : (n : ℕ) (es : List (ℕ × Access)) (e : ℕ × Access) → slice_get es n ≡ Some e → 1 ≤ present e.0 es
present-at n [] e h = cc
present-at zero (f ∷ es) e h = let same : f ≡ e = cc in rw (present-cons e.0 f.0 f.1 es, same, nat_eq_equiv.refl e.0) (omega arith)
present-at (suc n) (f ∷ es) e h = omega (arith, present-cons e.0 f.0 f.1 es, present-at n es e h)

pub present-tail : (es : List (ℕ × Access)) (e : ℕ × Access) → last_entry es ≡ Some e → 1 ≤ present e.0 es
present-tail es e h = present-at (length es - 1) es e h

found-at : (n : ℕ) (es : List (ℕ × Access)) (e : ℕ × Access) → slice_get es n ≡ Some e → present e.0 es ≤ 1 → lookup (nat_eq e.0) es ≡ Some e.1
found-at n [] e h s = cc
found-at zero (f ∷ es) e h s = let same : f ≡ e = cc in rw (same, nat_eq_equiv.refl e.0) refl
found-at (suc n) (f ∷ es) e h s = (elim (nat_eq e.0 f.0) as (λ y. nat_eq e.0 f.0 ≡ y → cond y (Some f.1) (lookup (nat_eq e.0) es) ≡ Some e.1) [
  | true ↦ λ t. absurd (omega (arith, s, present-cons e.0 f.0 f.1 es, present-at n es e h, one (nat_eq e.0 f.0) t))
  | false ↦ λ t. found-at n es e h (omega (arith, s, present-cons e.0 f.0 f.1 es))
]) refl

pub found-tail : (es : List (ℕ × Access)) (e : ℕ × Access) → last_entry es ≡ Some e → present e.0 es ≤ 1 → lookup (nat_eq e.0) es ≡ Some e.1
found-tail es e h s = found-at (length es - 1) es e h s

present-found : (p : ℕ × Access → Bool) (es : List (ℕ × Access)) (e : ℕ × Access) → find p es ≡ Some e → 1 ≤ present e.0 es
present-found p [] e h = cc
present-found p (f ∷ es) e h = rw (present-cons e.0 f.0 f.1 es) ((elim (p f) as (λ y. p f ≡ y → 1 ≤ cond (nat_eq e.0 f.0) 1 0 + present e.0 es) [
  | true ↦ λ t. let h' = rw t at h in let same : f ≡ e = cc in rw (same, nat_eq_equiv.refl e.0) (omega arith)
  | false ↦ λ t. omega (arith, present-found p es e (rw t at h))
]) refl)

pub present-active : (es : List (ℕ × Access)) (e : ℕ × Access) → last_active es ≡ Some e → 1 ≤ present e.0 es
present-active es e h = omega (arith, present-found (λ d. d.1.active) (reverse es) e h, sum_by-reverse (λ x. cond (nat_eq e.0 x) 1 0) (λ d. d.0) es)

-- an item that is taken out of its list
pub present-taken : (k i : ℕ) (es : List (ℕ × Access)) → 1 ≤ present i es → present k (without i es) + cond (nat_eq k i) 1 0 ≡ present k es
present-taken k i es h = (elim (nat_eq k i) as (λ y. nat_eq k i ≡ y → present k (without i es) + cond (nat_eq k i) 1 0 ≡ present k es) [
  | true ↦ λ t. let same : k ≡ i = eqb-true k i t in let here : 1 ≤ present k es = rw same h in omega (arith, here, present-without k i es, one (nat_eq k i) t)
  | false ↦ λ t. omega (arith, present-without k i es, none (nat_eq k i) t)
]) refl

-- How many items of a list are active, before and after each change.
use Rattle.std.proofs.Common.{◌≡◌, ℕ, ◌+◌, Bool, true, false, nat_eq, cond, List, [], ◌∷◌, Some, None, refl, ◌∙◌, arith, reverse}
use Rattle.std.proofs.lemmas.List.Sums.{sum_by-cons}
use Rattle.std.proofs.lemmas.Map.Entries.{sum_by-set_value, sum_by-remove_entry}
use Rattle.std.specs.List.{find}
use Rattle.std.specs.Map.{lookup, set_value, values_of}
use Rattle.geo_lru.proofs.Reversed.{sum_by-reverse}
use Rattle.geo_lru.specs.declared.access.Access.{Access}
use Rattle.geo_lru.specs.Lists.{active_count, without, last_active}

abbrev one_if_active : Access → ℕ
one_if_active a = cond a.active 1 0

pub one : (b : Bool) → b ≡ true → cond {A = ℕ} b 1 0 ≡ 1
one b h = rw h refl

pub none : (b : Bool) → b ≡ false → cond {A = ℕ} b 1 0 ≡ 0
none b h = rw h refl

pub active-cons : (i : ℕ) (a : Access) (es : List (ℕ × Access)) → active_count ((i, a) ∷ es) ≡ cond a.active 1 0 + active_count es
active-cons i a es = sum_by-cons one_if_active a (values_of es)

pub active-set_value : (i : ℕ) (es : List (ℕ × Access)) (a b : Access) → lookup (nat_eq i) es ≡ Some a
    → active_count (set_value (nat_eq i) es b) + cond a.active 1 0 ≡ active_count es + cond b.active 1 0
active-set_value i es a b h = sum_by-set_value one_if_active (nat_eq i) es a b h

pub active-without : (i : ℕ) (es : List (ℕ × Access)) (a : Access) → lookup (nat_eq i) es ≡ Some a
    → active_count (without i es) + cond a.active 1 0 ≡ active_count es
active-without i es a h = rw h at (sum_by-remove_entry one_if_active (nat_eq i) es)

-- where none is active, none is found
none_active : (es : List (ℕ × Access)) → active_count es ≡ 0 → find (λ e. e.1.active) es ≡ None
none_active [] h = refl
none_active (e ∷ es) h = (elim e.1.active as (λ y. e.1.active ≡ y → cond y (Some e) (find (λ d. d.1.active) es) ≡ None) [
  | true ↦ λ t. absurd (omega (arith, h, active-cons e.0 e.1 es, one e.1.active t))
  | false ↦ λ t. none_active es (omega (arith, h, active-cons e.0 e.1 es))
]) refl

pub last_active-none : (es : List (ℕ × Access)) → active_count es ≡ 0 → last_active es ≡ None
last_active-none es h = none_active (reverse es) (sum_by-reverse one_if_active (λ e. e.1) es ∙ h)

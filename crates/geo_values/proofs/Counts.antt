-- How many items the lists have after each call.
use Rattle.std.proofs.Common.{◌≡◌, ℕ, ◌+◌, ◌≤◌, Bool, true, false, nat_eq, cond, List, [], ◌∷◌, length, Some, None, refl, arith}
use Rattle.std.proofs.lemmas.Map.{length-set_value}
use Rattle.std.specs.Option.{option_map_or}
use Rattle.std.specs.Map.{lookup, set_value}
use Rattle.geo_lru.specs.Rules.{touched, count}
use Rattle.geo_lru.specs.Lists.{Lists, present, places, touched_in, without, touched_at, left}
use Rattle.geo_lru.specs.declared.access.Access.{Access}
use Rattle.geo_lru.proofs.Places.{present-cons}
use Rattle.geo_lru.proofs.Tallies.{one, none}

pub length-without : (n : ℕ) (es : List (ℕ × Access)) → present n es ≤ 1 → length (without n es) + present n es ≡ length es
length-without n [] h = refl
length-without n (e ∷ es) h = by (nat_eq n e.0) refl (λ (b : present n es ≤ 1). length-without n es b)
  where
    by : (b : Bool) → nat_eq n e.0 ≡ b → (present n es ≤ 1 → length (without n es) + present n es ≡ length es) → length (cond b es (e ∷ without n es)) + present n (e ∷ es) ≡ length (e ∷ es)
    by true t more = omega (arith, h, present-cons n e.0 e.1 es, one (nat_eq n e.0) t)
    by false t more = omega (arith, h, present-cons n e.0 e.1 es, none (nat_eq n e.0) t, more (omega (arith, h, present-cons n e.0 e.1 es)))

pub count-left : (n : ℕ) (l : Lists) → places n l ≤ 1 → count (left n l) + places n l ≡ count l
count-left n l h = omega (arith, length-without n l.hot (omega (arith, h)), length-without n l.warm (omega (arith, h)), length-without n l.cold (omega (arith, h)))

length-touched : (n : ℕ) (es : List (ℕ × Access)) → length (touched_in n es) ≡ length es
length-touched n es = elim (lookup (nat_eq n) es) as (λ o. length (option_map_or (λ a. set_value (nat_eq n) es (touched a)) o es) ≡ length es) [
  | None ↦ refl
  | Some a ↦ length-set_value (nat_eq n) es (touched a)
]

pub count-touched : (n : ℕ) (l : Lists) → count (touched_at n l) ≡ count l
count-touched n l = omega (arith, length-touched n l.hot, length-touched n l.warm, length-touched n l.cold)

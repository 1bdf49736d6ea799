-- Where items stand after each call: what a caller that keeps track of them cites.
use Rattle.std.proofs.Common.{◌≡◌, ℕ, ◌+◌, ◌-◌, ◌≤◌, true, false, nat_eq, nat_lt, cond, is_some, List, [], ◌∷◌, length, Option, Some, None, IfSome, Result, Ok, Err, OnErr, get_or, refl, ap, ◌∙◌, arith}
use Rattle.std.proofs.lemmas.Bool.{eqb-true}
use Rattle.std.proofs.lemmas.Option.{slice_get-get_or}
use Rattle.std.specs.Cmp.{nat_eq_equiv}
use Rattle.std.specs.Option.{option_map, option_map_or, unwrap_or}
use Rattle.std.specs.Map.{lookup}
use Rattle.lru.specs.LruCache.{last_entry}
use Rattle.geo_lru.specs.declared.access.Access.{Access}
use Rattle.geo_lru.specs.Lists.{Lists, IsApart, present, places, touched_in, without, moved, unseen, brought_forward, last_active, entered, touched_at, left, victim_of, hot_limit, warm_limit, hot_tail_moved, warm_tail_moved, cold_active_moved, hot_juggled, warm_juggled, cold_juggled, juggled}
use Rattle.geo_lru.proofs.Tallies.{one, none}
use Rattle.geo_lru.proofs.Places.{present-cons, present-touched_in, present-without, present-taken, present-tail, present-active, found, missing, found-tail, touched-absent, without-absent}

-- no item comes to stand at more places
pub fewer : (l m : Lists) → IsApart l → ((k : ℕ) → places k m ≤ places k l) → IsApart m
fewer l m h below = record { once = λ k. omega (arith, h.once k, below k) }

pub places-entered : (k i : ℕ) (l : Lists) → places k (entered i l) ≡ places k l + cond (nat_eq k i) 1 0
places-entered k i l = omega (arith, present-cons k i unseen l.hot)

pub apart-entered : (i : ℕ) (l : Lists) → IsApart l → places i l ≡ 0 → IsApart (entered i l)
apart-entered i l h z = record {
  once = λ k. (elim (nat_eq k i) as (λ y. nat_eq k i ≡ y → places k (entered i l) ≤ 1) [
    | true ↦ λ t. let same : k ≡ i = eqb-true k i t in let here : places k l ≡ 0 = rw same z in omega (arith, places-entered k i l, here, one (nat_eq k i) t)
    | false ↦ λ t. omega (arith, places-entered k i l, h.once k, none (nat_eq k i) t)
  ]) refl;
}

pub places-touched_at : (k i : ℕ) (l : Lists) → places k (touched_at i l) ≡ places k l
places-touched_at k i l = omega (arith, present-touched_in k i l.hot, present-touched_in k i l.warm, present-touched_in k i l.cold)

pub places-left : (k i : ℕ) (l : Lists) → places i l ≤ 1 → places k (left i l) ≡ places k l - cond (nat_eq k i) 1 0
places-left k i l h = (elim (nat_eq k i) as (λ y. nat_eq k i ≡ y → places k (left i l) ≡ places k l - cond (nat_eq k i) 1 0) [
  | true ↦ λ t. let same : k ≡ i = eqb-true k i t in let once : places k l ≤ 1 = rw same h in
      omega (arith, present-without k i l.hot, present-without k i l.warm, present-without k i l.cold, once, one (nat_eq k i) t)
  | false ↦ λ t. omega (arith, present-without k i l.hot, present-without k i l.warm, present-without k i l.cold, none (nat_eq k i) t)
]) refl

-- an item that is in HOT is in no other list, and one that is in WARM is not in COLD
pub touched_at-hot : (i : ℕ) (l : Lists) → IsApart l → is_some (lookup (nat_eq i) l.hot) ≡ true → touched_at i l ≡ record l { hot = touched_in i l.hot }
touched_at-hot i l h t = rw (touched-absent i l.warm (omega (arith, h.once i, found i l.hot t)), touched-absent i l.cold (omega (arith, h.once i, found i l.hot t))) refl

pub touched_at-warm : (i : ℕ) (l : Lists) → IsApart l → is_some (lookup (nat_eq i) l.warm) ≡ true → touched_at i l ≡ record { hot = touched_in i l.hot; warm = touched_in i l.warm; cold = l.cold }
touched_at-warm i l h t = rw (touched-absent i l.cold (omega (arith, h.once i, found i l.warm t))) refl

pub left-hot : (i : ℕ) (l : Lists) → IsApart l → is_some (lookup (nat_eq i) l.hot) ≡ true → left i l ≡ record l { hot = without i l.hot }
left-hot i l h t = rw (without-absent i l.warm (omega (arith, h.once i, found i l.hot t)), without-absent i l.cold (omega (arith, h.once i, found i l.hot t))) refl

pub left-warm : (i : ℕ) (l : Lists) → IsApart l → is_some (lookup (nat_eq i) l.warm) ≡ true → left i l ≡ record { hot = without i l.hot; warm = without i l.warm; cold = l.cold }
left-warm i l h t = rw (without-absent i l.cold (omega (arith, h.once i, found i l.warm t))) refl

-- and the other way round
pub left-from-cold : (i : ℕ) (l : Lists) → IsApart l → is_some (lookup (nat_eq i) l.cold) ≡ true → left i l ≡ record l { cold = without i l.cold }
left-from-cold i l h t = rw (without-absent i l.hot (omega (arith, h.once i, found i l.cold t)), without-absent i l.warm (omega (arith, h.once i, found i l.cold t))) refl

pub left-from-warm : (i : ℕ) (l : Lists) → IsApart l → is_some (lookup (nat_eq i) l.warm) ≡ true → left i l ≡ record { hot = l.hot; warm = without i l.warm; cold = without i l.cold }
left-from-warm i l h t = rw (without-absent i l.hot (omega (arith, h.once i, found i l.warm t))) refl

-- what holds at all holds of a refusal
pub if_refused : {A E : Type 0} (result : Result A E) (P : Type 0) → P → OnErr result P
if_refused (Ok _) P p = tt
if_refused (Err _) P p = p

-- an item that comes anew
pub apart-renewed : (i : ℕ) (l : Lists) → IsApart l → IsApart (entered i (left i l))
apart-renewed i l h = apart-entered i (left i l) (fewer l (left i l) h (λ k. omega (arith, places-left k i l (h.once i)))) (omega (arith, places-left i i l (h.once i), h.once i, one (nat_eq i i) (nat_eq_equiv.refl i)))

pub renewed-hot : (i : ℕ) (l : Lists) → IsApart l → is_some (lookup (nat_eq i) l.hot) ≡ true → entered i (left i l) ≡ record l { hot = (i, unseen) ∷ without i l.hot }
renewed-hot i l h t = ap (entered i) (left-hot i l h t)

pub renewed-warm : (i : ℕ) (l : Lists) → IsApart l → is_some (lookup (nat_eq i) l.hot) ≡ false → is_some (lookup (nat_eq i) l.warm) ≡ true
    → entered i (left i l) ≡ record { hot = (i, unseen) ∷ l.hot; warm = without i l.warm; cold = l.cold }
renewed-warm i l h f t = ap (entered i) (left-warm i l h t) ∙ ap (λ es. record { hot = (i, unseen) ∷ es; warm = without i l.warm; cold = l.cold }) (without-absent i l.hot (missing i l.hot f))

pub renewed-cold : (i : ℕ) (l : Lists) → is_some (lookup (nat_eq i) l.hot) ≡ false → entered i (left i l) ≡ record { hot = (i, unseen) ∷ l.hot; warm = without i l.warm; cold = without i l.cold }
renewed-cold i l f = rw (without-absent i l.hot (missing i l.hot f)) refl

-- the tail of a list, moved to its head
pub brought_forward-tail : (es : List (ℕ × Access)) (i : ℕ) (a : Access) → last_entry es ≡ Some (i, a) → present i es ≤ 1 → brought_forward i es ≡ (i, moved a) ∷ without i es
brought_forward-tail es i a h s = rw (found-tail es (i, a) h s) refl

-- a move leaves each item at as many places
places-hot_tail_moved : (k : ℕ) (l : Lists) (e : ℕ × Access) → 1 ≤ present e.0 l.hot → places k (hot_tail_moved l e) ≡ places k l
places-hot_tail_moved k l e h = elim e.1.active as (λ b. places k (cond b (record { hot = without e.0 l.hot; warm = (e.0, moved e.1) ∷ l.warm; cold = l.cold }) (record { hot = without e.0 l.hot; warm = l.warm; cold = (e.0, moved e.1) ∷ l.cold })) ≡ places k l) [
  | true ↦ omega (arith, present-taken k e.0 l.hot h, present-cons k e.0 (moved e.1) l.warm)
  | false ↦ omega (arith, present-taken k e.0 l.hot h, present-cons k e.0 (moved e.1) l.cold)
]

places-warm_tail_moved : (k : ℕ) (l : Lists) (e : ℕ × Access) → 1 ≤ present e.0 l.warm → places k (warm_tail_moved l e) ≡ places k l
places-warm_tail_moved k l e h = elim e.1.active as (λ b. places k (cond b (record { hot = l.hot; warm = (e.0, moved e.1) ∷ without e.0 l.warm; cold = l.cold }) (record { hot = l.hot; warm = without e.0 l.warm; cold = (e.0, moved e.1) ∷ l.cold })) ≡ places k l) [
  | true ↦ omega (arith, present-taken k e.0 l.warm h, present-cons k e.0 (moved e.1) (without e.0 l.warm))
  | false ↦ omega (arith, present-taken k e.0 l.warm h, present-cons k e.0 (moved e.1) l.cold)
]

places-cold_active_moved : (k : ℕ) (l : Lists) (e : ℕ × Access) → 1 ≤ present e.0 l.cold → places k (cold_active_moved l e) ≡ places k l
places-cold_active_moved k l e h = omega (arith, present-taken k e.0 l.cold h, present-cons k e.0 (moved e.1) l.warm)

-- what is moved, if anything, stands in the list that it is taken from
unless : (k : ℕ) (l : Lists) (move : ℕ × Access → Lists) (o : Option (ℕ × Access)) → ((e : ℕ × Access) → o ≡ Some e → places k (move e) ≡ places k l)
    → places k (unwrap_or (option_map move o) l) ≡ places k l
unless k l move None h = refl
unless k l move (Some e) h = h e refl

pub places-juggled : (k : ℕ) (l : Lists) → places k (unwrap_or (juggled l) l) ≡ places k l
places-juggled k l =
    let hot : places k (unwrap_or (hot_juggled l) l) ≡ places k l = unless k l (hot_tail_moved l) (last_entry l.hot) (λ e t. places-hot_tail_moved k l e (present-tail l.hot e t)) in
    let warm : places k (unwrap_or (warm_juggled l) l) ≡ places k l = unless k l (warm_tail_moved l) (last_entry l.warm) (λ e t. places-warm_tail_moved k l e (present-tail l.warm e t)) in
    let cold : places k (unwrap_or (cold_juggled l) l) ≡ places k l = unless k l (cold_active_moved l) (last_active l.cold) (λ e t. places-cold_active_moved k l e (present-active l.cold e t)) in
    elim (nat_lt (hot_limit l) (length l.hot)) as (λ b. places k (unwrap_or (cond b (hot_juggled l) (cond (nat_lt (warm_limit l) (length l.warm)) (warm_juggled l) (cold_juggled l))) l) ≡ places k l) [
      | true ↦ hot
      | false ↦ elim (nat_lt (warm_limit l) (length l.warm)) as (λ b. places k (unwrap_or (cond b (warm_juggled l) (cold_juggled l)) l) ≡ places k l) [ true ↦ warm | false ↦ cold ]
    ]

-- the victim is an item of the class, and there is one unless the class has none
victim-is : (l : Lists) (c w h : Option (ℕ × Access)) → last_entry l.cold ≡ c → last_entry l.warm ≡ w → last_entry l.hot ≡ h
    → IfSome (option_map (λ e. e.0) (option_map_or Some c (option_map_or Some w h))) (λ i. 1 ≤ places i l)
victim-is l (Some e) w h s t u = omega (arith, present-tail l.cold e s)
victim-is l None (Some e) h s t u = omega (arith, present-tail l.warm e t)
victim-is l None None (Some e) s t u = omega (arith, present-tail l.hot e u)
victim-is l None None None s t u = tt

pub places-victim : (l : Lists) → IfSome (victim_of l) (λ i. 1 ≤ places i l)
places-victim l = victim-is l (last_entry l.cold) (last_entry l.warm) (last_entry l.hot) refl refl refl

nothing-last : (k : ℕ) (es : List (ℕ × Access)) → last_entry es ≡ None → present k es ≡ 0
nothing-last k [] h = refl
nothing-last k (e ∷ es) h = let here : last_entry (e ∷ es) ≡ Some (get_or (e ∷ es) (length (e ∷ es) - 1) e) = slice_get-get_or (e ∷ es) (length (e ∷ es) - 1) e (omega arith) in absurd cc

no-victim : (k : ℕ) (l : Lists) (c w h : Option (ℕ × Access)) → last_entry l.cold ≡ c → last_entry l.warm ≡ w → last_entry l.hot ≡ h
    → option_map (λ e. e.0) (option_map_or Some c (option_map_or Some w h)) ≡ None → places k l ≡ 0
no-victim k l (Some e) w h s t u n = absurd cc
no-victim k l None (Some e) h s t u n = absurd cc
no-victim k l None None (Some e) s t u n = absurd cc
no-victim k l None None None s t u n = omega (arith, nothing-last k l.cold s, nothing-last k l.warm t, nothing-last k l.hot u)

pub places-no-victim : (k : ℕ) (l : Lists) → victim_of l ≡ None → places k l ≡ 0
places-no-victim k l n = no-victim k l (last_entry l.cold) (last_entry l.warm) (last_entry l.hot) refl refl refl n

-- Lists of numbers as lists of keys: each word of the lists goes over from the ones to the others.
use Rattle.std.proofs.Common.{◌≡◌, ◌≢◌, ℕ, ◌-◌, ◌≤◌, Bool, true, false, nat_eq, cond, List, [], ◌∷◌, length, Option, Some, None, slice_get, refl, sym, ap, subst, ◌∙◌, arith}
use Rattle.std.proofs.lemmas.List.{length-map}
use Rattle.std.proofs.lemmas.Option.{slice_get-map}
use Rattle.std.specs.Cmp.{nat_eq_equiv}
use Rattle.std.specs.Option.{option_map, option_map_or}
use Rattle.std.specs.Map.{lookup, set_value}
use Rattle.lru.specs.LruCache.{last_entry}
use Rattle.geo_records.specs.Keys.{same_key}
use Rattle.geo_lru.specs.Rules.{touched, victim_of, touched_in_by, without_by, touched_by, left_by, count}
use Rattle.geo_lru.specs.Lists.{Lists, present, places, touched_in, without, touched_at, left}
use Rattle.geo_lru.specs.declared.access.Access.{Access}
use Rattle.geo_lru.proofs.Places.{present-cons}
use Rattle.geo_lru.proofs.Tallies.{one}
use Rattle.geo_values.specs.Links.{named_list, named}

pub present-first : (e : ℕ × Access) (es : List (ℕ × Access)) → 1 ≤ present e.0 (e ∷ es)
present-first e es = rw (present-cons e.0 e.0 e.1 es, nat_eq_equiv.refl e.0) (omega arith)

pub present-later : (m : ℕ) (e : ℕ × Access) (es : List (ℕ × Access)) → 1 ≤ present m es → 1 ≤ present m (e ∷ es)
present-later m e es h = omega (arith, present-cons m e.0 e.1 es, h)

-- a key is that of a number, and of no other in the list
abbrev pub Matches : (ℕ → List ℕ) → ℕ → List ℕ → List (ℕ × Access) → Type 0
Matches name n key es = (m : ℕ) → 1 ≤ present m es → same_key key (name m) ≡ nat_eq n m

-- two names are one where the list has the number
pub named-agree : (name name' : ℕ → List ℕ) (es : List (ℕ × Access)) → ((m : ℕ) → 1 ≤ present m es → name' m ≡ name m) → named_list name' es ≡ named_list name es
named-agree name name' [] h = refl
named-agree name name' (e ∷ es) h =
    let first : name' e.0 ≡ name e.0 = h e.0 (present-first e es) in
    let more = named-agree name name' es (λ m p. h m (present-later m e es p)) in
    ap (λ k. (k, e.1) ∷ named_list name' es) first ∙ ap (λ l. (name e.0, e.1) ∷ l) more

named-cond : (name : ℕ → List ℕ) (b : Bool) (xs ys : List (ℕ × Access)) → named_list name (cond b xs ys) ≡ cond b (named_list name xs) (named_list name ys)
named-cond name true xs ys = refl
named-cond name false xs ys = refl

module _ (name : ℕ → List ℕ) (n : ℕ) (key : List ℕ) where
  pub lookup-named : (es : List (ℕ × Access)) → Matches name n key es → lookup (same_key key) (named_list name es) ≡ lookup (nat_eq n) es
  lookup-named [] h = refl
  lookup-named (e ∷ es) h =
      ap (λ b. cond b (Some e.1) (lookup (same_key key) (named_list name es))) (h e.0 (present-first e es))
      ∙ ap (λ o. cond (nat_eq n e.0) (Some e.1) o) (lookup-named es (λ m p. h m (present-later m e es p)))

  set_value-named : (es : List (ℕ × Access)) (w : Access) → Matches name n key es → set_value (same_key key) (named_list name es) w ≡ named_list name (set_value (nat_eq n) es w)
  set_value-named [] w h = refl
  set_value-named (e ∷ es) w h =
      ap (λ b. cond b ((name e.0, w) ∷ named_list name es) ((name e.0, e.1) ∷ set_value (same_key key) (named_list name es) w)) (h e.0 (present-first e es))
      ∙ ap (λ l. cond (nat_eq n e.0) ((name e.0, w) ∷ named_list name es) ((name e.0, e.1) ∷ l)) (set_value-named es w (λ m p. h m (present-later m e es p)))
      ∙ sym (named-cond name (nat_eq n e.0) ((e.0, w) ∷ es) (e ∷ set_value (nat_eq n) es w))

  touched-named : (es : List (ℕ × Access)) → Matches name n key es → touched_in_by same_key key (named_list name es) ≡ named_list name (touched_in n es)
  touched-named es h =
      ap (λ o. option_map_or (λ a. set_value (same_key key) (named_list name es) (touched a)) o (named_list name es)) (lookup-named es h)
      ∙ by (lookup (nat_eq n) es)
    where
      by : (o : Option Access) → option_map_or (λ a. set_value (same_key key) (named_list name es) (touched a)) o (named_list name es) ≡ named_list name (option_map_or (λ a. set_value (nat_eq n) es (touched a)) o es)
      by None = refl
      by (Some a) = set_value-named es (touched a) h

  -- what was the key's is gone, and the others keep their names
  pub without-named : (name' : ℕ → List ℕ) (es : List (ℕ × Access)) → Matches name n key es → ((m : ℕ) → m ≢ n → name' m ≡ name m) → present n es ≤ 1
      → named_list name' (without n es) ≡ without_by same_key key (named_list name es)
  without-named name' [] h agree once = refl
  without-named name' (e ∷ es) h agree once =
      by (nat_eq n e.0) refl (without-named name' es (λ m p. h m (present-later m e es p)) agree (omega (arith, once, present-cons n e.0 e.1 es))) ∙ sym (ap (λ b. cond b (named_list name es) ((name e.0, e.1) ∷ without_by same_key key (named_list name es))) (h e.0 (present-first e es)))
    where
      by : (b : Bool) → nat_eq n e.0 ≡ b → named_list name' (without n es) ≡ without_by same_key key (named_list name es) → named_list name' (cond b es (e ∷ without n es)) ≡ cond b (named_list name es) ((name e.0, e.1) ∷ without_by same_key key (named_list name es))
      by true t more = named-agree name name' es (λ m p. agree m (λ same.
          let here : 1 ≤ present n es = subst (λ k. 1 ≤ present k es) same p in
          absurd (omega (arith, once, present-cons n e.0 e.1 es, here, one (nat_eq n e.0) t))))
      by false t more =
          let apart : e.0 ≢ n = λ same. let yes : nat_eq n e.0 ≡ true = rw same (nat_eq_equiv.refl n) in cc in
          ap (λ k. (k, e.1) ∷ named_list name' (without n es)) (agree e.0 apart)
          ∙ ap (λ l. (name e.0, e.1) ∷ l) more

-- the same of the three lists
abbrev pub MatchesAll : (ℕ → List ℕ) → ℕ → List ℕ → Lists → Type 0
MatchesAll name n key l = (m : ℕ) → 1 ≤ places m l → same_key key (name m) ≡ nat_eq n m

module _ (name : ℕ → List ℕ) (n : ℕ) (key : List ℕ) (l : Lists) (h : MatchesAll name n key l) where
  in_hot : Matches name n key l.hot
  in_hot m p = h m (omega (arith, p))

  in_warm : Matches name n key l.warm
  in_warm m p = h m (omega (arith, p))

  in_cold : Matches name n key l.cold
  in_cold m p = h m (omega (arith, p))

  pub named-touched : touched_by same_key key (named name l) ≡ named name (touched_at n l)
  named-touched = rw (touched-named name n key l.hot in_hot, touched-named name n key l.warm in_warm, touched-named name n key l.cold in_cold) refl

  pub named-left : (name' : ℕ → List ℕ) → ((m : ℕ) → m ≢ n → name' m ≡ name m) → places n l ≤ 1 → named name' (left n l) ≡ left_by same_key key (named name l)
  named-left name' agree once = rw (without-named name n key name' l.hot in_hot agree (omega (arith, once)), without-named name n key name' l.warm in_warm agree (omega (arith, once)), without-named name n key name' l.cold in_cold agree (omega (arith, once))) refl

-- two names are one where the lists have the number
pub named-agree_all : (name name' : ℕ → List ℕ) (l : Lists) → ((m : ℕ) → 1 ≤ places m l → name' m ≡ name m) → named name' l ≡ named name l
named-agree_all name name' l h = rw (named-agree name name' l.hot (λ m p. h m (omega (arith, p))), named-agree name name' l.warm (λ m p. h m (omega (arith, p))), named-agree name name' l.cold (λ m p. h m (omega (arith, p)))) refl

-- the lists have as many keys as numbers
pub count-named : (name : ℕ → List ℕ) (l : Lists) → count (named name l) ≡ count l
count-named name l = simp (length-map) refl

pub last-named : (name : ℕ → List ℕ) (es : List (ℕ × Access)) → last_entry (named_list name es) ≡ option_map (λ (e : ℕ × Access). (name e.0, e.1)) (last_entry es)
last-named name es = ap (λ (n : ℕ). slice_get (named_list name es) (n - 1)) (length-map es (λ (e : ℕ × Access). (name e.0, e.1))) ∙ slice_get-map (λ (e : ℕ × Access). (name e.0, e.1)) es (length es - 1)

-- the victim among keys is the key of the victim among numbers
pub victim-named : (name : ℕ → List ℕ) (l : Lists) → victim_of (named name l) ≡ option_map name (victim_of l)
victim-named name l =
    rw (last-named name l.hot, last-named name l.warm, last-named name l.cold) (by (last_entry l.cold) (last_entry l.warm) (last_entry l.hot))
  where
    show : ℕ × Access → List ℕ × Access
    show e = (name e.0, e.1)

    by : (c w h : Option (ℕ × Access))
        → option_map (λ (e : List ℕ × Access). e.0) (option_map_or Some (option_map (λ (e : ℕ × Access). (name e.0, e.1)) c) (option_map_or Some (option_map (λ (e : ℕ × Access). (name e.0, e.1)) w) (option_map (λ (e : ℕ × Access). (name e.0, e.1)) h)))
        ≡ option_map name (option_map (λ (e : ℕ × Access). e.0) (option_map_or Some c (option_map_or Some w h)))
    by (Some e) w h = refl
    by None (Some e) h = refl
    by None None (Some e) = refl
    by None None None = refl

-- a key that is no number's
module _ (name : ℕ → List ℕ) (key : List ℕ) where
  abbrev pub Misses : List (ℕ × Access) → Type 0
  Misses es = (m : ℕ) → 1 ≤ present m es → same_key key (name m) ≡ false

  lookup-misses : (es : List (ℕ × Access)) → Misses es → lookup (same_key key) (named_list name es) ≡ None
  lookup-misses [] h = refl
  lookup-misses (e ∷ es) h =
      ap (λ b. cond b (Some e.1) (lookup (same_key key) (named_list name es))) (h e.0 (present-first e es)) ∙ lookup-misses es (λ m p. h m (present-later m e es p))

  touched-misses : (es : List (ℕ × Access)) → Misses es → touched_in_by same_key key (named_list name es) ≡ named_list name es
  touched-misses es h = ap (λ o. option_map_or (λ a. set_value (same_key key) (named_list name es) (touched a)) o (named_list name es)) (lookup-misses es h)

  pub touched_by-misses : (l : Lists) → ((m : ℕ) → 1 ≤ places m l → same_key key (name m) ≡ false) → touched_by same_key key (named name l) ≡ named name l
  touched_by-misses l h = rw (touched-misses l.hot (λ m p. h m (omega (arith, p))), touched-misses l.warm (λ m p. h m (omega (arith, p))), touched-misses l.cold (λ m p. h m (omega (arith, p)))) refl

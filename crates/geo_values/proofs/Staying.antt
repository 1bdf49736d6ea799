-- What a filter by keys leaves of the lists, and that an item which leaves them leaves such a filter.
use Rattle.std.proofs.Common.{◌≡◌, ℕ, ◌≤◌, Bool, true, false, not, nat_eq, cond, filter, List, [], ◌∷◌, refl, sym, ap, ◌∙◌, arith}
use Rattle.geo_records.specs.Keys.{same_key}
use Rattle.geo_lru.specs.Rules.{ListsOf, left_by, without_by}
use Rattle.geo_lru.specs.Lists.{Lists, present, places}
use Rattle.geo_lru.specs.declared.access.Access.{Access}
use Rattle.geo_lru.proofs.Places.{present-cons}
use Rattle.geo_lru.proofs.Tallies.{one}
use Rattle.geo_values.specs.Stock.{staying}
use Rattle.geo_values.specs.Links.{named_list, named}
use Rattle.geo_values.proofs.Names.{Matches, MatchesAll, Misses, present-first, present-later}
use Rattle.geo_values.proofs.Linked.{either_way, other_numbers}

-- but for one key
abbrev pub all_but : List ℕ → (List ℕ → Bool) → List ℕ → Bool
all_but key stays q = cond (same_key q key) false (stays q)

-- the item of another key
abbrev is_other : List ℕ → List ℕ × Access → Bool
is_other key e = not (same_key e.0 key)

-- where all stay, all is as it was
all_stay : {A : Type 0} (es : List A) → filter (λ e. true) es ≡ es
all_stay [] = refl
all_stay (e ∷ es) = ap (λ l. e ∷ l) (all_stay es)

pub staying-all : (l : ListsOf (List ℕ)) → staying (λ q. true) l ≡ l
staying-all l = rw (all_stay l.hot, all_stay l.warm, all_stay l.cold) refl

module _ (stays : List ℕ → Bool) (key : List ℕ) where
  -- first those that stay, then all but the key
  twice : (es : List (List ℕ × Access)) → filter (is_other key) (filter (λ e. stays e.0) es) ≡ filter (λ e. all_but key stays e.0) es
  twice [] = refl
  twice (e ∷ es) = by (stays e.0) (same_key e.0 key) refl (twice es)
    where
      by : (s k : Bool) → same_key e.0 key ≡ k → filter (is_other key) (filter (λ e. stays e.0) es) ≡ filter (λ e. all_but key stays e.0) es
          → filter (is_other key) (cond s (e ∷ filter (λ e. stays e.0) es) (filter (λ e. stays e.0) es)) ≡ cond (cond k false s) (e ∷ filter (λ e. all_but key stays e.0) es) (filter (λ e. all_but key stays e.0) es)
      by true true t more = ap (λ b. cond (not b) (e ∷ filter (is_other key) (filter (λ e. stays e.0) es)) (filter (is_other key) (filter (λ e. stays e.0) es))) t ∙ more
      by true false t more = ap (λ b. cond (not b) (e ∷ filter (is_other key) (filter (λ e. stays e.0) es)) (filter (is_other key) (filter (λ e. stays e.0) es))) t ∙ ap (λ l. e ∷ l) more
      by false true t more = more
      by false false t more = more

  pub staying-twice : (l : ListsOf (List ℕ)) → staying (λ q. not (same_key q key)) (staying stays l) ≡ staying (all_but key stays) l
  staying-twice l = rw (twice l.hot, twice l.warm, twice l.cold) refl

-- whether the first item stays
module _ (name : ℕ → List ℕ) (key : List ℕ) (e : ℕ × Access) (es : List (ℕ × Access)) where
  first_by : (b : Bool) → same_key key (name e.0) ≡ b → filter (is_other key) (named_list name (e ∷ es)) ≡ cond (not b) ((name e.0, e.1) ∷ filter (is_other key) (named_list name es)) (filter (is_other key) (named_list name es))
  first_by b t = ap (λ b. cond (not b) ((name e.0, e.1) ∷ filter (is_other key) (named_list name es)) (filter (is_other key) (named_list name es))) (either_way (name e.0) key ∙ t)

-- a key that is no number's leaves all
module _ (name : ℕ → List ℕ) (key : List ℕ) where
  none_leaves : (es : List (ℕ × Access)) → Misses name key es → filter (is_other key) (named_list name es) ≡ named_list name es
  none_leaves [] h = refl
  none_leaves (e ∷ es) h = first_by name key e es false (h e.0 (present-first e es)) ∙ ap (λ l. (name e.0, e.1) ∷ l) (none_leaves es (λ m p. h m (present-later m e es p)))

  pub staying-misses : (l : Lists) → ((m : ℕ) → 1 ≤ places m l → same_key key (name m) ≡ false) → staying (λ q. not (same_key q key)) (named name l) ≡ named name l
  staying-misses l h = rw (none_leaves l.hot (λ m p. h m (omega (arith, p))), none_leaves l.warm (λ m p. h m (omega (arith, p))), none_leaves l.cold (λ m p. h m (omega (arith, p)))) refl

-- a key that stands once in a list leaves all but it
module _ (name : ℕ → List ℕ) (n : ℕ) (key : List ℕ) where
  misses-absent : (es : List (ℕ × Access)) → Matches name n key es → present n es ≡ 0 → Misses name key es
  misses-absent es h absent m p = h m p ∙ other_numbers n m (λ same. absurd (omega (arith, absent, p, ap (λ k. present k es) same)))

  one_leaves : (es : List (ℕ × Access)) → Matches name n key es → present n es ≤ 1 → without_by same_key key (named_list name es) ≡ filter (is_other key) (named_list name es)
  one_leaves [] h once = refl
  one_leaves (e ∷ es) h once =
      by (nat_eq n e.0) refl (one_leaves es (λ m p. h m (present-later m e es p)) (omega (arith, once, present-cons n e.0 e.1 es)))
    where
      by : (b : Bool) → nat_eq n e.0 ≡ b → without_by same_key key (named_list name es) ≡ filter (is_other key) (named_list name es)
          → without_by same_key key (named_list name (e ∷ es)) ≡ filter (is_other key) (named_list name (e ∷ es))
      by true t more =
          let here = h e.0 (present-first e es) ∙ t in
          let gone : present n es ≡ 0 = omega (arith, once, present-cons n e.0 e.1 es, one (nat_eq n e.0) t) in
          ap (λ b. cond b (named_list name es) ((name e.0, e.1) ∷ without_by same_key key (named_list name es))) here
          ∙ sym (none_leaves name key es (misses-absent es (λ m p. h m (present-later m e es p)) gone))
          ∙ sym (first_by name key e es true here)
      by false t more =
          let here = h e.0 (present-first e es) ∙ t in
          ap (λ b. cond b (named_list name es) ((name e.0, e.1) ∷ without_by same_key key (named_list name es))) here
          ∙ ap (λ l. (name e.0, e.1) ∷ l) more
          ∙ sym (first_by name key e es false here)

  pub left-staying : (l : Lists) → MatchesAll name n key l → places n l ≤ 1 → left_by same_key key (named name l) ≡ staying (λ q. not (same_key q key)) (named name l)
  left-staying l h once = rw (one_leaves l.hot (λ m p. h m (omega (arith, p))) (omega (arith, once)), one_leaves l.warm (λ m p. h m (omega (arith, p))) (omega (arith, once)), one_leaves l.cold (λ m p. h m (omega (arith, p))) (omega (arith, once))) refl

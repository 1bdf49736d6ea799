-- A move among numbers is the same move among keys, and the links outlast it.
use Rattle.std.proofs.Common.{◌≡◌, ℕ, ◌*◌, ◌/◌, ◌≤◌, Bool, true, false, nat_eq, nat_lt, cond, is_some, List, [], ◌∷◌, length, map, reverse, Option, Some, None, Result, Ok, Err, OnOk, OnErr, refl, sym, ap, ◌∙◌, arith}
use Rattle.std.proofs.lemmas.List.{length-map}
use Rattle.std.specs.List.{find}
use Rattle.std.specs.Option.{option_map, unwrap_or}
use Rattle.indexmap.proofs.ReorderLemmas.{map-reverse}
use Rattle.lru.specs.LruCache.{last_entry}
use Rattle.geo_records.specs.Keys.{same_key}
use Rattle.geo_slabs.specs.Storage.{Storage}
use Rattle.geo_lru.specs.Rules.{ListsOf, moved, count, last_active, hot_limit, warm_limit, without_by, hot_tail_moved_by, warm_tail_moved_by, cold_active_moved_by, hot_juggled_by, warm_juggled_by, cold_juggled_by, juggled_by}
use Rattle.geo_lru.specs.Lists.{Lists, present, places, without, hot_tail_moved, warm_tail_moved, cold_active_moved, hot_juggled, warm_juggled, cold_juggled, juggled}
use Rattle.geo_lru.specs.declared.access.Access.{Access}
use Rattle.geo_lru.proofs.Places.{present-tail, present-active}
use Rattle.geo_lru.proofs.Calls.{places-juggled}
use Rattle.geo_values.specs.Stock.{Same, juggled_in}
use Rattle.geo_values.specs.Links.{Links, IsLinked, key_of, named_list, named, stock_of}
use Rattle.geo_values.specs.Steps.{SameLinks, moved_in}
use Rattle.geo_values.proofs.Names.{without-named, last-named, count-named}
use Rattle.geo_values.proofs.Counts.{length-without}
use Rattle.geo_values.proofs.Linked.{listed, once, matches}
use Rattle.geo_values.proofs.Relisted.{Relists, linked-same, stock-same, linked-relisted, held-relisted, pages-relisted, named-relisted}

show : (ℕ → List ℕ) → ℕ × Access → List ℕ × Access
show name e = (name e.0, e.1)

find-map : (f : ℕ × Access → List ℕ × Access) (test : List ℕ × Access → Bool) (es : List (ℕ × Access)) → find test (map f es) ≡ option_map f (find (λ e. test (f e)) es)
find-map f test [] = refl
find-map f test (e ∷ es) = by (test (f e)) (find-map f test es)
  where
    by : (b : Bool) → find test (map f es) ≡ option_map f (find (λ e. test (f e)) es) → cond b (Some (f e)) (find test (map f es)) ≡ option_map f (cond b (Some e) (find (λ e. test (f e)) es))
    by true more = refl
    by false more = more

pub last_active-named : (name : ℕ → List ℕ) (es : List (ℕ × Access)) → last_active (named_list name es) ≡ option_map (λ (e : ℕ × Access). (name e.0, e.1)) (last_active es)
last_active-named name es =
    ap (find (λ (e : List ℕ × Access). e.1.active)) (sym (map-reverse (λ (e : ℕ × Access). (name e.0, e.1)) es))
    ∙ find-map (λ (e : ℕ × Access). (name e.0, e.1)) (λ (e : List ℕ × Access). e.1.active) (reverse es)

-- the numbers in the lists have names of their own
abbrev pub NamesApart : (ℕ → List ℕ) → Lists → Type 0
NamesApart name l = (m k : ℕ) → 1 ≤ places m l → 1 ≤ places k l → same_key (name m) (name k) ≡ nat_eq m k

module _ (name : ℕ → List ℕ) (l : Lists) (own : NamesApart name l) (once : (m : ℕ) → places m l ≤ 1) where
  in_hot : (n : ℕ) → 1 ≤ present n l.hot → without_by same_key (name n) (named_list name l.hot) ≡ named_list name (without n l.hot)
  in_hot n p = sym (without-named name n (name n) name l.hot (λ m q. own n m (omega (arith, p)) (omega (arith, q))) (λ m ne. refl) (omega (arith, once n)))

  in_warm : (n : ℕ) → 1 ≤ present n l.warm → without_by same_key (name n) (named_list name l.warm) ≡ named_list name (without n l.warm)
  in_warm n p = sym (without-named name n (name n) name l.warm (λ m q. own n m (omega (arith, p)) (omega (arith, q))) (λ m ne. refl) (omega (arith, once n)))

  in_cold : (n : ℕ) → 1 ≤ present n l.cold → without_by same_key (name n) (named_list name l.cold) ≡ named_list name (without n l.cold)
  in_cold n p = sym (without-named name n (name n) name l.cold (λ m q. own n m (omega (arith, p)) (omega (arith, q))) (λ m ne. refl) (omega (arith, once n)))

  hot-named : (e : ℕ × Access) → 1 ≤ present e.0 l.hot → hot_tail_moved_by same_key (named name l) (name e.0, e.1) ≡ named name (hot_tail_moved l e)
  hot-named e p = rw (in_hot e.0 p) (by e.1.active)
    where
      by : (b : Bool)
          → cond b
          (record { hot = named_list name (without e.0 l.hot); warm = (name e.0, moved e.1) ∷ named_list name l.warm; cold = named_list name l.cold })
          (record { hot = named_list name (without e.0 l.hot); warm = named_list name l.warm; cold = (name e.0, moved e.1) ∷ named_list name l.cold })
          ≡ named name (cond b
          (record { hot = without e.0 l.hot; warm = (e.0, moved e.1) ∷ l.warm; cold = l.cold })
          (record { hot = without e.0 l.hot; warm = l.warm; cold = (e.0, moved e.1) ∷ l.cold }))
      by true = refl
      by false = refl

  warm-named : (e : ℕ × Access) → 1 ≤ present e.0 l.warm → warm_tail_moved_by same_key (named name l) (name e.0, e.1) ≡ named name (warm_tail_moved l e)
  warm-named e p = rw (in_warm e.0 p) (by e.1.active)
    where
      by : (b : Bool)
          → cond b
          (record { hot = named_list name l.hot; warm = (name e.0, moved e.1) ∷ named_list name (without e.0 l.warm); cold = named_list name l.cold })
          (record { hot = named_list name l.hot; warm = named_list name (without e.0 l.warm); cold = (name e.0, moved e.1) ∷ named_list name l.cold })
          ≡ named name (cond b
          (record { hot = l.hot; warm = (e.0, moved e.1) ∷ without e.0 l.warm; cold = l.cold })
          (record { hot = l.hot; warm = without e.0 l.warm; cold = (e.0, moved e.1) ∷ l.cold }))
      by true = refl
      by false = refl

  cold-named : (e : ℕ × Access) → 1 ≤ present e.0 l.cold → cold_active_moved_by same_key (named name l) (name e.0, e.1) ≡ named name (cold_active_moved l e)
  cold-named e p = rw (in_cold e.0 p) refl

  over : (move' : List ℕ × Access → ListsOf (List ℕ)) (move : ℕ × Access → Lists) (o : Option (ℕ × Access)) → ((e : ℕ × Access) → o ≡ Some e → move' (name e.0, e.1) ≡ named name (move e))
      → option_map move' (option_map (λ (e : ℕ × Access). (name e.0, e.1)) o) ≡ option_map (named name) (option_map move o)
  over move' move None h = refl
  over move' move (Some e) h = ap Some (h e refl)

  hot_now : hot_juggled_by same_key (named name l) ≡ option_map (named name) (hot_juggled l)
  hot_now = ap (option_map (hot_tail_moved_by same_key (named name l))) (last-named name l.hot) ∙ over (hot_tail_moved_by same_key (named name l)) (hot_tail_moved l) (last_entry l.hot) (λ e t. hot-named e (present-tail l.hot e t))

  warm_now : warm_juggled_by same_key (named name l) ≡ option_map (named name) (warm_juggled l)
  warm_now = ap (option_map (warm_tail_moved_by same_key (named name l))) (last-named name l.warm) ∙ over (warm_tail_moved_by same_key (named name l)) (warm_tail_moved l) (last_entry l.warm) (λ e t. warm-named e (present-tail l.warm e t))

  cold_now : cold_juggled_by same_key (named name l) ≡ option_map (named name) (cold_juggled l)
  cold_now = ap (option_map (cold_active_moved_by same_key (named name l))) (last_active-named name l.cold) ∙ over (cold_active_moved_by same_key (named name l)) (cold_active_moved l) (last_active l.cold) (λ e t. cold-named e (present-active l.cold e t))

  hot_over : nat_lt (hot_limit (named name l)) (length (named_list name l.hot)) ≡ nat_lt (hot_limit l) (length l.hot)
  hot_over = ap (λ (n : ℕ). nat_lt (20 * n / 100) (length (named_list name l.hot))) (count-named name l) ∙ ap (nat_lt (hot_limit l)) (length-map l.hot (λ (e : ℕ × Access). (name e.0, e.1)))

  warm_over : nat_lt (warm_limit (named name l)) (length (named_list name l.warm)) ≡ nat_lt (warm_limit l) (length l.warm)
  warm_over = ap (λ (n : ℕ). nat_lt (40 * n / 100) (length (named_list name l.warm))) (count-named name l) ∙ ap (nat_lt (warm_limit l)) (length-map l.warm (λ (e : ℕ × Access). (name e.0, e.1)))

  pub juggled-named : juggled_by same_key (named name l) ≡ option_map (named name) (juggled l)
  juggled-named =
      ap (λ b. cond b (hot_juggled_by same_key (named name l)) (cond (nat_lt (warm_limit (named name l)) (length (named_list name l.warm))) (warm_juggled_by same_key (named name l)) (cold_juggled_by same_key (named name l)))) hot_over
      ∙ ap (λ b. cond (nat_lt (hot_limit l) (length l.hot)) (hot_juggled_by same_key (named name l)) (cond b (warm_juggled_by same_key (named name l)) (cold_juggled_by same_key (named name l)))) warm_over
      ∙ by (nat_lt (hot_limit l) (length l.hot)) (nat_lt (warm_limit l) (length l.warm))
    where
      by : (b d : Bool) → cond b (hot_juggled_by same_key (named name l)) (cond d (warm_juggled_by same_key (named name l)) (cold_juggled_by same_key (named name l)))
          ≡ option_map (named name) (cond b (hot_juggled l) (cond d (warm_juggled l) (cold_juggled l)))
      by true d = hot_now
      by false true = warm_now
      by false false = cold_now

  -- a move changes no count
  hot-count : (e : ℕ × Access) → 1 ≤ present e.0 l.hot → count (hot_tail_moved l e) ≡ count l
  hot-count e p = by e.1.active
    where
      by : (b : Bool) → count (cond b (record { hot = without e.0 l.hot; warm = (e.0, moved e.1) ∷ l.warm; cold = l.cold }) (record { hot = without e.0 l.hot; warm = l.warm; cold = (e.0, moved e.1) ∷ l.cold })) ≡ count l
      by true = omega (arith, length-without e.0 l.hot (omega (arith, once e.0)), p, once e.0)
      by false = omega (arith, length-without e.0 l.hot (omega (arith, once e.0)), p, once e.0)

  warm-count : (e : ℕ × Access) → 1 ≤ present e.0 l.warm → count (warm_tail_moved l e) ≡ count l
  warm-count e p = by e.1.active
    where
      by : (b : Bool) → count (cond b (record { hot = l.hot; warm = (e.0, moved e.1) ∷ without e.0 l.warm; cold = l.cold }) (record { hot = l.hot; warm = without e.0 l.warm; cold = (e.0, moved e.1) ∷ l.cold })) ≡ count l
      by true = omega (arith, length-without e.0 l.warm (omega (arith, once e.0)), p, once e.0)
      by false = omega (arith, length-without e.0 l.warm (omega (arith, once e.0)), p, once e.0)

  cold-count : (e : ℕ × Access) → 1 ≤ present e.0 l.cold → count (cold_active_moved l e) ≡ count l
  cold-count e p = omega (arith, length-without e.0 l.cold (omega (arith, once e.0)), p, once e.0)

  count_if_any : (move : ℕ × Access → Lists) (o : Option (ℕ × Access)) → ((e : ℕ × Access) → o ≡ Some e → count (move e) ≡ count l) → count (unwrap_or (option_map move o) l) ≡ count l
  count_if_any move None h = refl
  count_if_any move (Some e) h = h e refl

  pub count-juggled : count (unwrap_or (juggled l) l) ≡ count l
  count-juggled = by (nat_lt (hot_limit l) (length l.hot)) (nat_lt (warm_limit l) (length l.warm))
    where
      by : (b d : Bool) → count (unwrap_or (cond b (hot_juggled l) (cond d (warm_juggled l) (cold_juggled l))) l) ≡ count l
      by true d = count_if_any (hot_tail_moved l) (last_entry l.hot) (λ e t. hot-count e (present-tail l.hot e t))
      by false true = count_if_any (warm_tail_moved l) (last_entry l.warm) (λ e t. warm-count e (present-tail l.warm e t))
      by false false = count_if_any (cold_active_moved l) (last_active l.cold) (λ e t. cold-count e (present-active l.cold e t))

named-unwrap : (name : ℕ → List ℕ) (o : Option Lists) (l : Lists) → unwrap_or (option_map (named name) o) (named name l) ≡ named name (unwrap_or o l)
named-unwrap name None l = refl
named-unwrap name (Some m) l = refl

is_some-map : (name : ℕ → List ℕ) (o : Option Lists) → is_some (option_map (named name) o) ≡ is_some o
is_some-map name None = refl
is_some-map name (Some m) = refl

module _ {l : Links} (h : IsLinked l) (class : ℕ) where
  own : (c : ℕ) → NamesApart (key_of l) (l.lists c)
  own c m k pm pk =
      let at = listed h m c pm in
      let b = h.back m at.0 at.1 in
      ap (λ (q : List ℕ). same_key q (key_of l k)) (ap (λ (o : Option (List ℕ)). unwrap_or o []) at.1) ∙ matches h at.0 b.item b.is c k pk ∙ ap (λ n. nat_eq n k) b.numbered

  pub told-juggled : is_some (juggled_by same_key (named (key_of l) (l.lists class))) ≡ is_some (juggled (l.lists class))
  told-juggled = ap is_some (juggled-named (key_of l) (l.lists class) (own class) (λ m. once h m class)) ∙ is_some-map (key_of l) (juggled (l.lists class))

module _ {l l' : Links} (h : IsLinked l) (class : ℕ) (moved : SameLinks (moved_in class l) l') where
  moved_places : (m c : ℕ) → places m (l'.lists c) ≡ places m (l.lists c)
  moved_places m c = ap (places m) (moved.lists c) ∙ by (nat_eq c class)
    where
      by : (b : Bool) → places m (cond b (unwrap_or (juggled (l.lists c)) (l.lists c)) (l.lists c)) ≡ places m (l.lists c)
      by true = places-juggled m (l.lists c)
      by false = refl

  moved_count : (c : ℕ) → count (l'.lists c) ≡ count (l.lists c)
  moved_count c = ap count (moved.lists c) ∙ by (nat_eq c class)
    where
      by : (b : Bool) → count (cond b (unwrap_or (juggled (l.lists c)) (l.lists c)) (l.lists c)) ≡ count (l.lists c)
      by true = count-juggled (key_of l) (l.lists c) (own h c c) (λ m. once h m c)
      by false = refl

  relists : Relists l l'
  relists = record { item = moved.item; key = moved.key; storage = moved.storage; places = moved_places; count = moved_count }

  pub linked-moved : IsLinked l'
  linked-moved = linked-relisted relists h

  pub stock-moved : Same (juggled_in class (stock_of l)) (stock_of l')
  stock-moved = record {
    held = held-relisted relists;
    lists = λ c. named-relisted relists (l'.lists c) ∙ ap (named (key_of l)) (moved.lists c) ∙ by c (nat_eq c class);
    pages = pages-relisted relists;
    spare = ap (λ (s : Storage). s.spare) moved.storage;
  }
    where
      by : (c : ℕ) (b : Bool) → named (key_of l) (cond b (unwrap_or (juggled (l.lists c)) (l.lists c)) (l.lists c))
          ≡ cond b (unwrap_or (juggled_by same_key (named (key_of l) (l.lists c))) (named (key_of l) (l.lists c))) (named (key_of l) (l.lists c))
      by c true = sym (ap (λ (o : Option (ListsOf (List ℕ))). unwrap_or o (named (key_of l) (l.lists c))) (juggled-named (key_of l) (l.lists c) (own h c c) (λ m. once h m c)) ∙ named-unwrap (key_of l) (juggled (l.lists c)) (l.lists c))
      by c false = refl

-- what a call of juggle tells, and what it leaves
module _ {E : Type 0} {l : Links} (l' : Links) (h : IsLinked l) (class : ℕ) where
  pub linked-juggles : (r : Result Bool E) → OnOk r (SameLinks (moved_in class l) l') → OnErr r (SameLinks l l') → IsLinked l'
  linked-juggles (Ok told) moved same = linked-moved h class moved
  linked-juggles (Err e) moved same = linked-same same h

  pub stock-juggles : (r : Result Bool E) → OnOk r (SameLinks (moved_in class l) l') → OnOk r (Same (juggled_in class (stock_of l)) (stock_of l'))
  stock-juggles (Ok told) moved = stock-moved h class moved
  stock-juggles (Err e) moved = tt

  pub same-juggles : (r : Result Bool E) → OnErr r (SameLinks l l') → OnErr r (Same (stock_of l) (stock_of l'))
  same-juggles (Ok told) same = tt
  same-juggles (Err e) same = stock-same same

-- A number that has entered the lists for a key whose item is still to come: the other items go as if it weren't there.
use Rattle.std.proofs.Common.{◌≡◌, ◌≢◌, ℕ, suc, ◌+◌, ◌-◌, ◌<◌, ◌≤◌, inl, inr, Bool, true, false, nat_eq, cond, List, [], ◌∷◌, length, slice_get, Option, Some, None, IsSome, IfSome, refl, sym, ap, subst, ◌∙◌, arith}
use Rattle.std.proofs.lemmas.Bool.{cases_eq, eqb-true}
use Rattle.std.specs.Option.{option_map, option_map_or}
use Rattle.lru.specs.LruCache.{last_entry}
use Rattle.geo_slabs.specs.Storage.{IsFull, class_count, chunks_in}
use Rattle.geo_lru.specs.Rules.{count, unseen}
use Rattle.geo_lru.specs.Lists.{Lists, places, left, entered, without, victim_of}
use Rattle.geo_lru.specs.declared.access.Access.{Access}
use Rattle.geo_lru.proofs.Calls.{places-victim}
use Rattle.geo_values.specs.Links.{Links, IsLinked}
use Rattle.geo_values.specs.Steps.{SameLinks, CanGo, CanGoIfAny, CanEvict, HasVictim, Evicts, taken_out, admitted}
use Rattle.geo_values.specs.declared.parts.Item.{Item}
use Rattle.geo_values.proofs.Linked.{other_numbers, same_numbers, can_go}
use Rattle.geo_values.proofs.Evicted.{can_evict}
use Rattle.geo_values.proofs.Putting.{all_held}

-- links that agree everywhere are equal
pub same_links : {l l' : Links} → SameLinks l l' → l' ≡ l
same_links s = λ i. record { item = λ q. s.item q i; key = λ m. s.key m i; storage = s.storage i; lists = λ c. s.lists c i }

-- one that leaves and another that enters
left-entered : (m n : ℕ) (l : Lists) → nat_eq m n ≡ false → left m (entered n l) ≡ entered n (left m l)
left-entered m n l t = ap (λ (b : Bool). record { hot = cond b l.hot ((n, unseen) ∷ without m l.hot); warm = without m l.warm; cold = without m l.cold }) t

module _ (base : Links) (h : IsLinked base) (n : ℕ) (key : List ℕ) (class : ℕ) (free : base.key n ≡ None) where
  number_apart : (k : List ℕ) (item : Item) → base.item k ≡ Some item → item.number ≢ n
  number_apart k item is same = let there : base.key n ≡ Some k = ap base.key (sym same) ∙ h.there k item is in let no : None ≡ Some k = sym free ∙ there in cc

  -- an item that is taken out before or after is all the same
  pub out-waits : (k : List ℕ) (item : Item) → base.item k ≡ Some item → taken_out k item (admitted n key class base) ≡ admitted n key class (taken_out k item base)
  out-waits k item is = same_links (record { item = λ q. refl; key = keys; storage = refl; lists = lists })
    where
      keys : (m : ℕ) → cond (nat_eq m item.number) None (cond (nat_eq m n) (Some key) (base.key m)) ≡ cond (nat_eq m n) (Some key) (cond (nat_eq m item.number) None (base.key m))
      keys m = elim (cases_eq m n) [
        | inl same ↦
            let apart : nat_eq m item.number ≡ false = other_numbers m item.number (λ e. number_apart k item is (sym e ∙ same)) in
            ap (λ b. cond {A = Option (List ℕ)} b None (cond (nat_eq m n) (Some key) (base.key m))) apart
            ∙ ap (λ b. cond {A = Option (List ℕ)} (nat_eq m n) (Some key) (cond b None (base.key m))) (sym apart)
        | inr apart ↦
            let no : nat_eq m n ≡ false = other_numbers m n apart in
            ap (λ b. cond {A = Option (List ℕ)} (nat_eq m item.number) None (cond b (Some key) (base.key m))) no
            ∙ ap (λ b. cond {A = Option (List ℕ)} b (Some key) (cond (nat_eq m item.number) None (base.key m))) (sym no)
      ]

      lists_by : (c : ℕ) (a b : Bool)
          → cond a (left item.number (cond b (entered n (base.lists c)) (base.lists c))) (cond b (entered n (base.lists c)) (base.lists c))
          ≡ cond b (entered n (cond a (left item.number (base.lists c)) (base.lists c))) (cond a (left item.number (base.lists c)) (base.lists c))
      lists_by c true true = left-entered item.number n (base.lists c) (other_numbers item.number n (number_apart k item is))
      lists_by c true false = refl
      lists_by c false true = refl
      lists_by c false false = refl

      lists : (c : ℕ) → cond (nat_eq c item.class) (left item.number (cond (nat_eq c class) (entered n (base.lists c)) (base.lists c))) (cond (nat_eq c class) (entered n (base.lists c)) (base.lists c))
          ≡ cond (nat_eq c class) (entered n (cond (nat_eq c item.class) (left item.number (base.lists c)) (base.lists c))) (cond (nat_eq c item.class) (left item.number (base.lists c)) (base.lists c))
      lists c = lists_by c (nat_eq c item.class) (nat_eq c class)

  -- the number stays free below
  pub still_free : (k : List ℕ) (item : Item) → (taken_out k item base).key n ≡ None
  still_free k item = ap (λ (o : Option (List ℕ)). cond (nat_eq n item.number) None o) free ∙ both (nat_eq n item.number)
    where
      both : (b : Bool) → cond {A = Option (List ℕ)} b None None ≡ None
      both true = refl
      both false = refl

  key_stays : (m : ℕ) → m ≢ n → (admitted n key class base).key m ≡ base.key m
  key_stays m ne = ap (λ b. cond {A = Option (List ℕ)} b (Some key) (base.key m)) (other_numbers m n ne)

  pub can_go-waits : (k : List ℕ) (item : Item) → base.item k ≡ Some item → CanGo (admitted n key class base) item
  can_go-waits k item is =
      let g = can_go h k item is in
      record { there = subst IsSome (sym (key_stays item.number (number_apart k item is))) g.there; held = g.held; class = g.class }

  pub can_go_if_any-waits : (k : List ℕ) → CanGoIfAny (admitted n key class base) (base.item k)
  can_go_if_any-waits k = by (base.item k) refl
    where
      by : (o : Option Item) → base.item k ≡ o → CanGoIfAny (admitted n key class base) o
      by None e = tt
      by (Some item) e = can_go-waits k item e

  lists_here : (admitted n key class base).lists class ≡ entered n (base.lists class)
  lists_here = ap (λ b. cond {A = Lists} b (entered n (base.lists class)) (base.lists class)) (same_numbers class class refl)

-- the victim of lists that have some

last-cons : (x : ℕ × Access) (es : List (ℕ × Access)) (e : ℕ × Access) → last_entry es ≡ Some e → last_entry (x ∷ es) ≡ Some e
last-cons x [] e h = let no : None ≡ Some e = h in absurd cc
last-cons x (y ∷ es) e h =
    let one : length (x ∷ y ∷ es) - 1 ≡ suc (length es) = omega arith in
    let two : length (y ∷ es) - 1 ≡ length es = omega arith in
    ap (slice_get (x ∷ y ∷ es)) one ∙ sym (ap (slice_get (y ∷ es)) two) ∙ h

last-some : (x : ℕ × Access) (es : List (ℕ × Access)) → (e : ℕ × Access) × (last_entry (x ∷ es) ≡ Some e)
last-some x [] = (x, refl)
last-some x (y ∷ es) = let t = last-some y es in (t.0, last-cons x (y ∷ es) t.0 t.1)

abbrev among : Option (ℕ × Access) → Option (ℕ × Access) → Option (ℕ × Access) → Option ℕ
among c w h = option_map (λ (e : ℕ × Access). e.0) (option_map_or Some c (option_map_or Some w h))

among-more : (c w a b : Option (ℕ × Access)) (number : ℕ) → ((e : ℕ × Access) → a ≡ Some e → b ≡ Some e) → among c w a ≡ Some number → among c w b ≡ Some number
among-more (Some e) w a b number f h = h
among-more None (Some e) a b number f h = h
among-more None None (Some e) b number f h = ap (option_map (λ (e : ℕ × Access). e.0)) (f e refl) ∙ h
among-more None None None b number f h = let no : None ≡ Some number = h in absurd cc

victim-entered : (n : ℕ) (l : Lists) (number : ℕ) → victim_of l ≡ Some number → victim_of (entered n l) ≡ Some number
victim-entered n l number h = among-more (last_entry l.cold) (last_entry l.warm) (last_entry l.hot) (last_entry ((n, unseen) ∷ l.hot)) number (last-cons (n, unseen) l.hot) h

some_victim : (l : Lists) → 0 < count l → (number : ℕ) × (victim_of l ≡ Some number)
some_victim l p = by l.hot l.warm l.cold p
  where
    by : (hot warm cold : List (ℕ × Access)) → 0 < length hot + length warm + length cold → (number : ℕ) × (among (last_entry cold) (last_entry warm) (last_entry hot) ≡ Some number)
    by hot warm (e ∷ es) p = let t = last-some e es in (t.0.0, ap (λ o. among o (last_entry warm) (last_entry hot)) t.1)
    by hot (e ∷ es) [] p = let t = last-some e es in (t.0.0, ap (λ o. among None o (last_entry hot)) t.1)
    by (e ∷ es) [] [] p = let t = last-some e es in (t.0.0, ap (λ o. among None None o) t.1)
    by [] [] [] p = absurd (omega (arith, p))

-- what an eviction does below the number that waits
pub record EvictsBelow (base l' : Links) (n : ℕ) (key : List ℕ) (class : ℕ) (result : Option (List ℕ)) : Type 0 where
  pub below : Links
  pub evicts : Evicts base below class result
  pub waits : l' ≡ admitted n key class below
  pub free : below.key n ≡ None
  pub some : IsSome result

module _ (base : Links) (h : IsLinked base) (n : ℕ) (key : List ℕ) (class : ℕ) (free : base.key n ≡ None) (lt : class < class_count) (full : IsFull base.storage class) where
  items : 0 < count (base.lists class)
  items = omega (arith, h.counted class lt, all_held (chunks_in base.storage class) full.0, h.opened class lt)

  pub victim : (number : ℕ) × (victim_of (base.lists class) ≡ Some number)
  victim = some_victim (base.lists class) items

  victim_there : 1 ≤ places victim.0 (base.lists class)
  victim_there = subst (λ (o : Option ℕ). IfSome o (λ i. 1 ≤ places i (base.lists class))) victim.1 (places-victim (base.lists class))

  victim_apart : victim.0 ≢ n
  victim_apart same = absurd (omega (arith, victim_there, ap (λ k. places k (base.lists class)) same, h.only n class free))

  victim_is : victim_of ((admitted n key class base).lists class) ≡ Some victim.0
  victim_is = ap victim_of (lists_here base h n key class free) ∙ victim-entered n (base.lists class) victim.0 victim.1

  pub has_victim-waits : HasVictim (admitted n key class base) class
  has_victim-waits =
      let e : CanEvict base victim.0 = can_evict h victim.0 class victim_there in
      let stood : places victim.0 (base.lists class) ≡ cond (nat_eq class e.item.class) 1 0 = subst (λ k. places k (base.lists class) ≡ cond (nat_eq class e.item.class) 1 0) e.numbered (h.placed e.key e.item e.is class) in
      let in_class : nat_eq class e.item.class ≡ true = by e.item.class (nat_eq class e.item.class) refl stood in
      record {
        number = victim.0;
        is = victim_is;
        goes = record { key = e.key; leads = key_stays base h n key class free victim.0 victim_apart ∙ e.leads; item = e.item; is = e.is; numbered = e.numbered; goes = can_go-waits base h n key class free e.key e.item e.is };
        home = (h.sound e.key e.item e.is).class ∙ sym (eqb-true class e.item.class in_class);
      }
    where
      by : (k : ℕ) (b : Bool) → nat_eq class k ≡ b → places victim.0 (base.lists class) ≡ cond b 1 0 → b ≡ true
      by k true t s = refl
      by k false t s = absurd (omega (arith, victim_there, s))

  pub evicts-waits : (l' : Links) (result : Option (List ℕ)) → Evicts (admitted n key class base) l' class result → EvictsBelow base l' n key class result
  evicts-waits l' None e = let no : None ≡ Some victim.0 = sym e.0 ∙ victim_is in absurd cc
  evicts-waits l' (Some k) (number, is, e) =
      let numbers : Some number ≡ Some victim.0 = sym is ∙ victim_is in
      let one : number ≡ victim.0 = cc in
      let leads : base.key number ≡ Some k = sym (key_stays base h n key class free number (λ same. victim_apart (sym one ∙ same))) ∙ e.leads in
      record {
        below = taken_out k e.item base;
        evicts = (number, victim.1 ∙ ap Some (sym one), record { leads = leads; item = e.item; is = e.is; out = record { item = λ q. refl; key = λ m. refl; storage = refl; lists = λ c. refl } });
        waits = same_links e.out ∙ out-waits base h n key class free k e.item e.is;
        free = still_free base h n key class free k e.item;
        some = refl;
      }

-- A store as a whole: the key's item is taken out, room is made, and the new item comes, while its number waits in the lists.
use Rattle.std.proofs.Common.{◌≡◌, ℕ, ◌+◌, ◌-◌, ◌*◌, ◌<◌, inl, inr, Bool, true, false, ◌&&◌, nat_eq, cond, List, length, slice_get, Option, Some, None, IsSome, IfSome, refl, sym, ap, subst, ◌∙◌, arith}
use Rattle.sha2.specs.Sha256.{sha256}
use Rattle.geo_records.specs.Keys.{same_key}
use Rattle.geo_slabs.specs.Storage.{Storage, PutDoes, IsPut, IsFull, IsClassOf, AllHeld, class_count, chunks_a_page, chunks_in, with_page}
use Rattle.geo_slabs.specs.declared.slabs.Chunk.{Chunk}
use Rattle.geo_lru.specs.Rules.{count, victim_of}
use Rattle.geo_values.specs.Stock.{Stock, Same, dropped, arrived, evicted_from, is_used_up, is_full, with_page_of, with_room, victim_for, IsHeldIn, IsStored}
use Rattle.geo_values.specs.Links.{Links, IsLinked, key_of, named, held_count, pages_in, stock_of}
use Rattle.geo_values.specs.Steps.{SameLinks, TakesOut, Evicts, IsPutIn, IsPutForOther, PutsWithRoom, taken_out, admitted, with_item}
use Rattle.geo_values.specs.declared.parts.Item.{Item}
use Rattle.geo_values.proofs.Names.{count-named}
use Rattle.geo_values.proofs.Linked.{same_self, other_keys, same_numbers, other_numbers}
use Rattle.geo_values.proofs.Taken.{linked-out, stock-out}
use Rattle.geo_values.proofs.Relisted.{stock_if_any}
use Rattle.geo_values.proofs.Evicted.{linked-evicts, key-evicts, held-evicts, stock-evicts}
use Rattle.geo_values.proofs.Putting.{puts-in, puts-in_page, all_held, one_free}
use Rattle.geo_values.proofs.Waiting.{same_links, out-waits, still_free, evicts-waits, EvictsBelow}
use Rattle.geo_values.proofs.Arrived.{with_pages, with_all, linked-arrived, stock-arrived}

-- stocks that agree everywhere are equal
same_stock : {s t : Stock} → Same s t → t ≡ s
same_stock h = λ i. record { held = λ q. h.held q i; lists = λ c. h.lists c i; pages = λ c. h.pages c i; spare = h.spare i }

-- the links below a number that waits, once the key's item is out
pub record OutBelow (base l' : Links) (n : ℕ) (key : List ℕ) (class : ℕ) : Type 0 where
  pub below : Links
  pub linked : IsLinked below
  pub waits : l' ≡ admitted n key class below
  pub free : below.key n ≡ None
  pub gone : below.item key ≡ None
  pub stock : Same (dropped key (stock_of base)) (stock_of below)

module _ (base : Links) (h : IsLinked base) (n : ℕ) (key : List ℕ) (class : ℕ) (free : base.key n ≡ None) where
  pub out-below : (l' : Links) (o : Option Item) → base.item key ≡ o → TakesOut (admitted n key class base) l' key o → OutBelow base l' n key class
  out-below l' None e same = record {
    below = base;
    linked = h;
    waits = same_links same;
    free = free;
    gone = e;
    stock = stock_if_any base h key None e (record { item = λ q. refl; key = λ m. refl; storage = refl; lists = λ c. refl });
  }
  out-below l' (Some item) e out =
      let done : SameLinks (taken_out key item base) (taken_out key item base) = record { item = λ q. refl; key = λ m. refl; storage = refl; lists = λ c. refl } in
      record {
        below = taken_out key item base;
        linked = linked-out h key item e done;
        waits = same_links out ∙ out-waits base h n key class free key item e;
        free = still_free base h n key class free key item;
        gone = ap (λ t. cond {A = Option Item} t None (base.item key)) (same_self key);
        stock = stock-out h key item e done;
      }

-- what a stock tells of its chunks
module _ (b : Links) (h : IsLinked b) (class : ℕ) (lt : class < class_count) where
  as_many : count (named (key_of b) (b.lists class)) ≡ held_count (chunks_in b.storage class)
  as_many = count-named (key_of b) (b.lists class) ∙ sym (h.counted class lt)

  pub used_up : AllHeld (chunks_in b.storage class) → is_used_up (stock_of b) class ≡ true
  used_up held = same_numbers (count (named (key_of b) (b.lists class))) (pages_in b.storage class * chunks_a_page class) (as_many ∙ all_held (chunks_in b.storage class) held ∙ sym (h.whole class lt))

  pub not_used_up : (number : ℕ) → slice_get (chunks_in b.storage class) number ≡ Some None → is_used_up (stock_of b) class ≡ false
  not_used_up number free = other_numbers (count (named (key_of b) (b.lists class))) (pages_in b.storage class * chunks_a_page class)
      (λ e. absurd (omega (arith, one_free (chunks_in b.storage class) number free, e, as_many, h.whole class lt)))

-- room in a stock, by what it has
module _ (class : ℕ) (s : Stock) where
  pub room_free : is_used_up s class ≡ false → with_room class s ≡ s
  room_free t = ap (λ b. cond {A = Stock} b (cond (nat_eq s.spare 0) (evicted_from class s) (with_page_of class s)) s) t

  pub room_page : is_used_up s class ≡ true → nat_eq s.spare 0 ≡ false → with_room class s ≡ with_page_of class s
  room_page t z = ap (λ b. cond {A = Stock} b (cond (nat_eq s.spare 0) (evicted_from class s) (with_page_of class s)) s) t ∙ ap (λ b. cond {A = Stock} b (evicted_from class s) (with_page_of class s)) z

  room_evict : is_used_up s class ≡ true → nat_eq s.spare 0 ≡ true → with_room class s ≡ evicted_from class s
  room_evict t z = ap (λ b. cond {A = Stock} b (cond (nat_eq s.spare 0) (evicted_from class s) (with_page_of class s)) s) t ∙ ap (λ b. cond {A = Stock} b (evicted_from class s) (with_page_of class s)) z

  not_full : is_used_up s class ≡ false → is_full s class ≡ false
  not_full t = ap (λ b. b && nat_eq s.spare 0) t

  has_spare : nat_eq s.spare 0 ≡ false → is_full s class ≡ false
  has_spare z = ap (λ b. is_used_up s class && b) z ∙ by (is_used_up s class)
    where
      by : (b : Bool) → (b && false) ≡ false
      by true = refl
      by false = refl

  pub full_is : is_used_up s class ≡ true → nat_eq s.spare 0 ≡ true → is_full s class ≡ true
  full_is t z = ap (λ b. b && nat_eq s.spare 0) t ∙ z

  no_pages_more : with_pages 0 class s ≡ s
  no_pages_more = λ i. record { held = s.held; lists = s.lists; pages = λ c. by (nat_eq c class) (s.pages c) i; spare = least i }
    where
      by : (b : Bool) (p : ℕ) → p + cond b 0 0 ≡ p
      by true p = omega arith
      by false p = omega arith

      least : s.spare - 0 ≡ s.spare
      least = omega arith

  one_page_more : with_pages 1 class s ≡ with_page_of class s
  one_page_more = λ i. record { held = s.held; lists = s.lists; pages = λ c. by (nat_eq c class) (s.pages c) i; spare = s.spare - 1 }
    where
      by : (b : Bool) (p : ℕ) → p + cond b 1 0 ≡ cond b (p + 1) p
      by true p = refl
      by false p = omega arith

-- what a store makes of the stock without the key's old item
pub record Stores (s new : Stock) (key bytes : List ℕ) (class : ℕ) (evicted : Option (List ℕ)) : Type 0 where
  pub stored : Same (arrived key bytes class (with_room class s)) new
  pub victim : evicted ≡ victim_for class s
  pub one : is_full s class ≡ true → IsSome evicted
  pub other : IfSome evicted (λ victim. (same_key victim key ≡ false) × IsHeldIn s victim class)

module _ (n : ℕ) (key : List ℕ) (class : ℕ) (lt : class < class_count) (bytes : List ℕ) (fits : IsClassOf (length bytes) class) (chunk : Chunk) where
  abbrev item : Item
  item = record { number = n; digest = sha256 bytes; class = class; chunk = chunk }

  -- the last step, from links below which nothing of the key is left
  module _ (b : Links) (h : IsLinked b) (free : b.key n ≡ None) (gone : b.item key ≡ None) (before after : Links)
      (waits : before ≡ admitted n key class b) (put : IsPutIn before after class bytes chunk) where
    put_here : PutDoes b.storage after.storage class bytes (Some chunk)
    put_here = subst (λ (s : Storage). PutDoes s after.storage class bytes (Some chunk)) (ap (λ (l : Links). l.storage) waits) put.put

    all_here : {l' : Links} → SameLinks (with_item key item after) l' → l' ≡ with_all n key class after.storage item b
    all_here placed = same_links (record {
      item = λ q. placed.item q ∙ ap (cond (same_key q key) (Some item)) (put.item q ∙ ap (λ (l : Links). l.item q) waits);
      key = λ m. placed.key m ∙ put.key m ∙ ap (λ (l : Links). l.key m) waits;
      storage = placed.storage;
      lists = λ c. placed.lists c ∙ put.lists c ∙ ap (λ (l : Links). l.lists c) waits;
    })

    -- with a chunk that was free, and in a page that was spare
    linked_by : PutDoes b.storage after.storage class bytes (Some chunk) → IsLinked (with_all n key class after.storage item b)
    linked_by (inl p) = linked-arrived b h n key class free gone lt after.storage bytes fits chunk put_here 0 (puts-in p)
    linked_by (inr (held, spare, p)) = linked-arrived b h n key class free gone lt after.storage bytes fits chunk put_here 1 (puts-in_page b.storage class p)

    pub linked-stored : (l' : Links) → SameLinks (with_item key item after) l' → IsLinked l'
    linked-stored l' placed = subst IsLinked (sym (all_here placed)) (linked_by put_here)

    free_chunk : IsPut b.storage after.storage class bytes chunk → Same (arrived key bytes class (stock_of b)) (stock_of (with_all n key class after.storage item b))
    free_chunk p = subst (λ (s : Stock). Same (arrived key bytes class s) (stock_of (with_all n key class after.storage item b))) (no_pages_more class (stock_of b))
        (stock-arrived b h n key class free gone lt after.storage bytes fits chunk put_here 0 (puts-in p))

    new_page : IsPut (with_page b.storage class) after.storage class bytes chunk → Same (arrived key bytes class (with_page_of class (stock_of b))) (stock_of (with_all n key class after.storage item b))
    new_page p = subst (λ (s : Stock). Same (arrived key bytes class s) (stock_of (with_all n key class after.storage item b))) (one_page_more class (stock_of b))
        (stock-arrived b h n key class free gone lt after.storage bytes fits chunk put_here 1 (puts-in_page b.storage class p))

    stores_by : PutDoes b.storage after.storage class bytes (Some chunk) → Stores (stock_of b) (stock_of (with_all n key class after.storage item b)) key bytes class None
    stores_by (inl p) =
        let unused = not_used_up b h class lt chunk.number p.was_free in
        let opened = not_full class (stock_of b) unused in
        record {
          stored = subst (λ (s : Stock). Same (arrived key bytes class s) (stock_of (with_all n key class after.storage item b))) (sym (room_free class (stock_of b) unused)) (free_chunk p);
          victim = sym (ap (λ t. cond {A = Option (List ℕ)} t (victim_of ((stock_of b).lists class)) None) opened);
          one = λ full. let no : true ≡ false = sym full ∙ opened in cc;
          other = tt;
        }
    stores_by (inr (held, spare, p)) =
        let used = used_up b h class lt held in
        let some : nat_eq b.storage.spare 0 ≡ false = other_numbers b.storage.spare 0 (λ e. absurd (omega (arith, spare, e))) in
        let opened = has_spare class (stock_of b) some in
        record {
          stored = subst (λ (s : Stock). Same (arrived key bytes class s) (stock_of (with_all n key class after.storage item b))) (sym (room_page class (stock_of b) used some)) (new_page p);
          victim = sym (ap (λ t. cond {A = Option (List ℕ)} t (victim_of ((stock_of b).lists class)) None) opened);
          one = λ full. let no : true ≡ false = sym full ∙ opened in cc;
          other = tt;
        }

    pub stores-plainly : (l' : Links) → SameLinks (with_item key item after) l' → Stores (stock_of b) (stock_of l') key bytes class None
    stores-plainly l' placed = subst (λ (l : Links). Stores (stock_of b) (stock_of l) key bytes class None) (sym (all_here placed)) (stores_by put_here)

    -- where no page is spare the chunk was free
    pub arrives : b.storage.spare ≡ 0 → (l' : Links) → SameLinks (with_item key item after) l' → Same (arrived key bytes class (stock_of b)) (stock_of l')
    arrives none l' placed = subst (λ (l : Links). Same (arrived key bytes class (stock_of b)) (stock_of l)) (sym (all_here placed)) (by put_here)
      where
        by : PutDoes b.storage after.storage class bytes (Some chunk) → Same (arrived key bytes class (stock_of b)) (stock_of (with_all n key class after.storage item b))
        by (inl p) = free_chunk p
        by (inr (held, spare, p)) = absurd (omega (arith, spare, none))

  -- what an eviction leaves of a key without an item, and of the spare pages
  evicts_gone : (b b' : Links) (result : Option (List ℕ)) → Evicts b b' class result → b.item key ≡ None → b'.item key ≡ None
  evicts_gone b b' None e gone = e.1.item key ∙ gone
  evicts_gone b b' (Some k) (number, is, e) gone = e.out.item key ∙ ap (λ (o : Option Item). cond (same_key key k) None o) gone ∙ by (same_key key k)
    where
      by : (t : Bool) → cond {A = Option Item} t None None ≡ None
      by true = refl
      by false = refl

  -- the victim has an item, so that it is another key
  evicts_other : (b b' : Links) → IsLinked b → b.item key ≡ None → (result : Option (List ℕ)) → Evicts b b' class result → IfSome result (λ victim. (same_key victim key ≡ false) × IsHeldIn (stock_of b) victim class)
  evicts_other b b' h gone None e = tt
  evicts_other b b' h gone (Some k) (number, is, e) =
      let apart : same_key k key ≡ false = other_keys k key (λ same. let no : None ≡ Some e.item = sym gone ∙ ap b.item (sym same) ∙ e.is in cc) in
      (apart, held-evicts b' h class (Some k) (number, is, e))

  evicts_spare : (b b' : Links) (result : Option (List ℕ)) → Evicts b b' class result → b'.storage.spare ≡ b.storage.spare
  evicts_spare b b' None e = ap (λ (s : Storage). s.spare) e.1.storage
  evicts_spare b b' (Some k) (number, is, e) = ap (λ (s : Storage). s.spare) e.out.storage

  module _ (b : Links) (h : IsLinked b) (free : b.key n ≡ None) (gone : b.item key ≡ None) (before after : Links) (waits : before ≡ admitted n key class b)
      (evicted : Option (List ℕ)) where
    evicting : IsPutForOther before after class bytes chunk evicted → IsFull b.storage class
    evicting p = subst (λ (l : Links). IsFull l.storage class) waits p.full

    evicted_below : (p : IsPutForOther before after class bytes chunk evicted) → EvictsBelow b p.between n key class evicted
    evicted_below p = evicts-waits b h n key class free lt (evicting p) p.between evicted (subst (λ (l : Links). Evicts l p.between class evicted) waits p.evicts)

    pub linked-puts : (l' : Links) → PutsWithRoom before after class bytes chunk evicted → SameLinks (with_item key item after) l' → IsLinked l'
    linked-puts l' (inl (none, put)) placed = linked-stored b h free gone before after waits put l' placed
    linked-puts l' (inr p) placed =
        let e = evicted_below p in
        linked-stored e.below (linked-evicts e.below h class evicted e.evicts) e.free (evicts_gone b e.below evicted e.evicts gone) p.between after e.waits p.put l' placed

    pub stores-puts : (l' : Links) → PutsWithRoom before after class bytes chunk evicted → SameLinks (with_item key item after) l' → Stores (stock_of b) (stock_of l') key bytes class evicted
    stores-puts l' (inl (none, put)) placed =
        subst (Stores (stock_of b) (stock_of l') key bytes class) (sym none) (stores-plainly b h free gone before after waits put l' placed)
    stores-puts l' (inr p) placed =
        let e = evicted_below p in
        let full = evicting p in
        let used = used_up b h class lt full.0 in
        let empty : nat_eq b.storage.spare 0 ≡ true = same_numbers b.storage.spare 0 full.1 in
        let came = arrives e.below (linked-evicts e.below h class evicted e.evicts) e.free (evicts_gone b e.below evicted e.evicts gone) p.between after e.waits p.put (evicts_spare b e.below evicted e.evicts ∙ full.1) l' placed in
        let below : stock_of e.below ≡ evicted_from class (stock_of b) = same_stock (stock-evicts e.below h class evicted e.evicts) in
        record {
          stored = subst (λ (s : Stock). Same (arrived key bytes class s) (stock_of l')) (below ∙ sym (room_evict class (stock_of b) used empty)) came;
          victim = key-evicts e.below h class evicted e.evicts ∙ sym (ap (λ t. cond {A = Option (List ℕ)} t (victim_of ((stock_of b).lists class)) None) (full_is class (stock_of b) used empty));
          one = λ _. e.some;
          other = evicts_other b e.below h gone evicted e.evicts;
        }

-- what is held of another key was held before
held_before : (s : Stock) (key : List ℕ) (class : ℕ) (evicted : Option (List ℕ)) → IfSome evicted (λ victim. (same_key victim key ≡ false) × IsHeldIn (dropped key s) victim class)
    → IfSome evicted (λ victim. (same_key victim key ≡ false) × IsHeldIn s victim class)
held_before s key class None h = tt
held_before s key class (Some victim) (apart, h) = (apart, record { bytes = h.bytes; held = sym (ap (λ b. cond {A = Option (List ℕ)} b None (s.held victim)) apart) ∙ h.held; fits = h.fits })

-- the whole
pub stores-all : (s t new : Stock) (key bytes : List ℕ) (class : ℕ) (evicted : Option (List ℕ)) → IsClassOf (length bytes) class → Same (dropped key s) t → Stores t new key bytes class evicted → IsStored s new key bytes evicted
stores-all s t new key bytes class evicted fits without stores =
    let below : t ≡ dropped key s = same_stock without in
    let all = subst (λ (u : Stock). Stores u new key bytes class evicted) below stores in
    record { class = class; fits = fits; stored = all.stored; victim = all.victim; one = all.one; other = held_before s key class evicted all.other }

-- the links below, once a number was admitted and the key's item taken out
pub store-below : (base : Links) → IsLinked base → (n : ℕ) (key : List ℕ) (class : ℕ) → base.key n ≡ None → (l l' : Links) → SameLinks (admitted n key class base) l → TakesOut l l' key (l.item key) → OutBelow base l' n key class
store-below base h n key class free l l' waits out = out-below base h n key class free l' (base.item key) refl (subst (λ (m : Links). TakesOut m l' key (m.item key)) (same_links waits) out)

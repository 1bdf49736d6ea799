-- The links outlast what only moves items within their lists.
use Rattle.std.proofs.Common.{◌≡◌, ℕ, ◌*◌, ◌<◌, Bool, true, false, nat_eq, cond, List, [], length, Option, Some, None, refl, sym, ap, subst, ◌∙◌, arith}
use Rattle.std.specs.Option.{unwrap_or}
use Rattle.geo_records.specs.Keys.{same_key}
use Rattle.geo_slabs.specs.Storage.{Storage, chunks_a_page, chunks_in, class_in}
use Rattle.geo_lru.specs.Rules.{count}
use Rattle.geo_lru.specs.Lists.{Lists, places, touched_at}
use Rattle.geo_lru.proofs.Calls.{places-touched_at}
use Rattle.geo_lru.proofs.Places.{touched-absent}
use Rattle.geo_values.specs.Stock.{Same, dropped, hit_at}
use Rattle.geo_values.specs.Links.{Links, IsLinked, bytes_of, key_of, named, held_count, pages_in, stock_of}
use Rattle.geo_values.specs.Steps.{SameLinks, TakesOut, Hits, hit_on}
use Rattle.geo_values.specs.declared.parts.Item.{Item}
use Rattle.geo_values.proofs.Names.{named-agree_all, named-touched, touched_by-misses}
use Rattle.geo_values.proofs.Counts.{count-touched}
use Rattle.geo_values.proofs.Linked.{same_keys, matches, no_item, misses}
use Rattle.geo_values.proofs.Staying.{staying-misses}
use Rattle.geo_values.proofs.Taken.{linked-out, stock-out}

-- each item stands as often in lists of each class, which have as many items
pub record Relists (l l' : Links) : Type 0 where
  pub item : (q : List ℕ) → l'.item q ≡ l.item q
  pub key : (m : ℕ) → l'.key m ≡ l.key m
  pub storage : l'.storage ≡ l.storage
  pub places : (m class : ℕ) → places m (l'.lists class) ≡ places m (l.lists class)
  pub count : (class : ℕ) → count (l'.lists class) ≡ count (l.lists class)

module _ {l l' : Links} (r : Relists l l') where
  held_at : (o : Option Item) → bytes_of l'.storage o ≡ bytes_of l.storage o
  held_at o = ap (λ (s : Storage). bytes_of s o) r.storage

  pub held-relisted : (q : List ℕ) → bytes_of l'.storage (l'.item q) ≡ bytes_of l.storage (l.item q)
  held-relisted q = ap (bytes_of l'.storage) (r.item q) ∙ held_at (l.item q)

  pub pages-relisted : (class : ℕ) → pages_in l'.storage class ≡ pages_in l.storage class
  pages-relisted class = ap (λ (s : Storage). pages_in s class) r.storage

  -- the numbers keep their names
  pub named-relisted : (lists : Lists) → named (key_of l') lists ≡ named (key_of l) lists
  named-relisted lists = named-agree_all (key_of l) (key_of l') lists (λ m _. ap (λ (o : Option (List ℕ)). unwrap_or o []) (r.key m))

  pub linked-relisted : IsLinked l → IsLinked l'
  linked-relisted h = record {
    sound = λ q i e.
        let s = h.sound q i (sym (r.item q) ∙ e) in
        record { bytes = s.bytes; holds = held_at (Some i) ∙ s.holds; digest = s.digest; class = s.class; fits = s.fits };
    there = λ q i e. r.key i.number ∙ h.there q i (sym (r.item q) ∙ e);
    back = λ m q e. let b = h.back m q (sym (r.key m) ∙ e) in record { item = b.item; is = r.item q ∙ b.is; numbered = b.numbered };
    apart = λ q p i j ei ej e. h.apart q p i j (sym (r.item q) ∙ ei) (sym (r.item p) ∙ ej) e;
    placed = λ q i e class. r.places i.number class ∙ h.placed q i (sym (r.item q) ∙ e) class;
    only = λ m class e. r.places m class ∙ h.only m class (sym (r.key m) ∙ e);
    counted = λ class lt. ap (λ (s : Storage). held_count (chunks_in s class)) r.storage ∙ h.counted class lt ∙ sym (r.count class);
    cut = λ class lt. ap (λ (s : Storage). (class_in s class).per_page) r.storage ∙ h.cut class lt;
    whole = λ class lt. ap (λ (s : Storage). pages_in s class * chunks_a_page class) r.storage ∙ h.whole class lt ∙ sym (ap (λ (s : Storage). length (chunks_in s class)) r.storage);
    opened = λ class lt. subst (λ (s : Storage). 0 < length (chunks_in s class)) (sym r.storage) (h.opened class lt);
    classes = ap (λ (s : Storage). length s.classes) r.storage ∙ h.classes;
  }

module _ {l l' : Links} (same : SameLinks l l') where
  relists : Relists l l'
  relists = record { item = same.item; key = same.key; storage = same.storage; places = λ m class. ap (places m) (same.lists class); count = λ class. ap count (same.lists class) }

  pub linked-same : IsLinked l → IsLinked l'
  linked-same h = linked-relisted relists h

  pub stock-same : Same (stock_of l) (stock_of l')
  stock-same = record {
    held = held-relisted relists;
    lists = λ class. named-relisted relists (l'.lists class) ∙ ap (named (key_of l)) (same.lists class);
    pages = pages-relisted relists;
    spare = ap (λ (s : Storage). s.spare) same.storage;
  }

-- a key's item is taken out, if it has one
module _ {l : Links} (l' : Links) (h : IsLinked l) (key : List ℕ) where
  pub linked_if_any : (o : Option Item) → l.item key ≡ o → TakesOut l l' key o → IsLinked l'
  linked_if_any None e same = linked-same same h
  linked_if_any (Some item) e out = linked-out h key item e out

  pub linked-takes_out : TakesOut l l' key (l.item key) → IsLinked l'
  linked-takes_out out = linked_if_any (l.item key) refl out

  -- of a key that is not held nothing is dropped
  nothing_held : l.item key ≡ None → (q : List ℕ) → bytes_of l.storage (l.item q) ≡ cond (same_key q key) None (bytes_of l.storage (l.item q))
  nothing_held e q = by (same_key q key) refl
    where
      by : (t : Bool) → same_key q key ≡ t → bytes_of l.storage (l.item q) ≡ cond t None (bytes_of l.storage (l.item q))
      by true t = ap (bytes_of l.storage) (ap l.item (same_keys q key t) ∙ e)
      by false t = refl

  pub stock_if_any : (o : Option Item) → l.item key ≡ o → TakesOut l l' key o → Same (dropped key (stock_of l)) (stock_of l')
  stock_if_any (Some item) e out = stock-out h key item e out
  stock_if_any None e same =
      let s = stock-same same in
      record {
        held = λ q. s.held q ∙ nothing_held e q;
        lists = λ class. s.lists class ∙ sym (staying-misses (key_of l) key (l.lists class) (λ m p. misses h key e m class p));
        pages = s.pages;
        spare = s.spare;
      }

  pub stock-takes_out : TakesOut l l' key (l.item key) → Same (dropped key (stock_of l)) (stock_of l')
  stock-takes_out out = stock_if_any (l.item key) refl out

  pub absent-takes_out : bytes_of l.storage (l.item key) ≡ None → TakesOut l l' key (l.item key) → Same (stock_of l) (stock_of l')
  absent-takes_out none out = stock-same (subst (TakesOut l l' key) (no_item h key none) out)

pub touched_at-absent : (n : ℕ) (l : Lists) → places n l ≡ 0 → touched_at n l ≡ l
touched_at-absent n l h = rw (touched-absent n l.hot (omega (arith, h)), touched-absent n l.warm (omega (arith, h)), touched-absent n l.cold (omega (arith, h))) refl

-- a hit
module _ {l : Links} (l' : Links) (h : IsLinked l) (key : List ℕ) where
  hit_lists : (item : Item) → l.item key ≡ Some item → SameLinks (hit_on item l) l' → (class : ℕ) → l'.lists class ≡ touched_at item.number (l.lists class)
  hit_lists item e hit class = by (nat_eq class item.class) refl
    where
      by : (t : Bool) → nat_eq class item.class ≡ t → l'.lists class ≡ touched_at item.number (l.lists class)
      by true t = hit.lists class ∙ ap (λ b. cond {A = Lists} b (touched_at item.number (l.lists class)) (l.lists class)) t
      by false t =
          hit.lists class ∙ ap (λ b. cond {A = Lists} b (touched_at item.number (l.lists class)) (l.lists class)) t
          ∙ sym (touched_at-absent item.number (l.lists class) (h.placed key item e class ∙ ap (λ b. cond {A = ℕ} b 1 0) t))

  hit_relists : (item : Item) → l.item key ≡ Some item → SameLinks (hit_on item l) l' → Relists l l'
  hit_relists item e hit = record {
    item = hit.item;
    key = hit.key;
    storage = hit.storage;
    places = λ m class. ap (places m) (hit_lists item e hit class) ∙ places-touched_at m item.number (l.lists class);
    count = λ class. ap count (hit_lists item e hit class) ∙ count-touched item.number (l.lists class);
  }

  linked_hit : (o : Option Item) → l.item key ≡ o → Hits l l' o → IsLinked l'
  linked_hit None e same = linked-same same h
  linked_hit (Some item) e hit = linked-relisted (hit_relists item e hit) h

  pub linked-hits : Hits l l' (l.item key) → IsLinked l'
  linked-hits hit = linked_hit (l.item key) refl hit

  stock_hit : (o : Option Item) → l.item key ≡ o → Hits l l' o → Same (hit_at key (stock_of l)) (stock_of l')
  stock_hit None e same =
      let s = stock-same same in
      record { held = s.held; lists = λ class. s.lists class ∙ sym (touched_by-misses (key_of l) key (l.lists class) (λ m p. misses h key e m class p)); pages = s.pages; spare = s.spare }
  stock_hit (Some item) e hit =
      let r = hit_relists item e hit in
      record {
        held = held-relisted r;
        lists = λ class. named-relisted r (l'.lists class) ∙ ap (named (key_of l)) (hit_lists item e hit class) ∙ sym (named-touched (key_of l) item.number key (l.lists class) (matches h key item e class));
        pages = pages-relisted r;
        spare = ap (λ (s : Storage). s.spare) r.storage;
      }

  pub stock-hits : Hits l l' (l.item key) → Same (hit_at key (stock_of l)) (stock_of l')
  stock-hits hit = stock_hit (l.item key) refl hit

  pub absent-hits : bytes_of l.storage (l.item key) ≡ None → Hits l l' (l.item key) → Same (stock_of l) (stock_of l')
  absent-hits none hit = stock-same (subst (Hits l l') (no_item h key none) hit)

-- The links outlast an eviction, and the victim's key is dropped from the stock.
use Rattle.std.proofs.Common.{◌≡◌, ℕ, ◌≤◌, Bool, true, false, nat_eq, cond, List, [], length, Option, Some, None, IfSome, refl, sym, ap, subst, ◌∙◌, arith}
use Rattle.std.proofs.lemmas.Bool.{eqb-true}
use Rattle.std.specs.Option.{unwrap_or, option_map, option_map_or}
use Rattle.geo_slabs.specs.Storage.{IsClassOf}
use Rattle.geo_lru.specs.Lists.{places, victim_of}
use Rattle.geo_lru.proofs.Calls.{places-victim}
use Rattle.geo_values.specs.Stock.{Same, IsHeldIn, dropped, evicted_from}
use Rattle.geo_values.specs.Links.{Links, IsLinked, bytes_of, key_of, named, stock_of}
use Rattle.geo_values.specs.Steps.{CanEvict, CanEvictIfAny, Evicts}
use Rattle.geo_values.specs.declared.parts.Item.{Item}
use Rattle.geo_values.proofs.Names.{victim-named}
use Rattle.geo_values.proofs.Linked.{listed, can_go}
use Rattle.geo_values.proofs.Taken.{linked-out, stock-out}
use Rattle.geo_values.proofs.Relisted.{linked-same, stock-same}

module _ {l : Links} (h : IsLinked l) where
  pub can_evict : (number class : ℕ) → 1 ≤ places number (l.lists class) → CanEvict l number
  can_evict number class p =
      let at = listed h number class p in
      let b = h.back number at.0 at.1 in
      record { key = at.0; leads = at.1; item = b.item; is = b.is; numbered = b.numbered; goes = can_go h at.0 b.item b.is }

  pub can_evict_if_any : (class : ℕ) → CanEvictIfAny l (victim_of (l.lists class))
  can_evict_if_any class = by (victim_of (l.lists class)) (places-victim (l.lists class))
    where
      by : (o : Option ℕ) → IfSome o (λ i. 1 ≤ places i (l.lists class)) → CanEvictIfAny l o
      by None p = tt
      by (Some number) p = can_evict number class p

module _ {l : Links} (l' : Links) (h : IsLinked l) (class : ℕ) where
  pub linked-evicts : (result : Option (List ℕ)) → Evicts l l' class result → IsLinked l'
  linked-evicts None e = linked-same e.1 h
  linked-evicts (Some key) (number, victim, e) = linked-out h key e.item e.is e.out

  pub key-evicts : (result : Option (List ℕ)) → Evicts l l' class result → result ≡ victim_of (named (key_of l) (l.lists class))
  key-evicts None e = sym (victim-named (key_of l) (l.lists class) ∙ ap (option_map (key_of l)) e.0)
  key-evicts (Some key) (number, victim, e) =
      sym (victim-named (key_of l) (l.lists class) ∙ ap (option_map (key_of l)) victim ∙ ap (λ (o : Option (List ℕ)). Some (unwrap_or o [])) e.leads)

  -- an item of the lists of a class has bytes of that class
  item_held : (key : List ℕ) (item : Item) → l.item key ≡ Some item → 1 ≤ places item.number (l.lists class) → IsHeldIn (stock_of l) key class
  item_held key item is p =
      let s = h.sound key item is in
      let here : class ≡ item.class = by (nat_eq class item.class) refl (h.placed key item is class) in
      record { bytes = s.bytes; held = ap (bytes_of l.storage) is ∙ s.holds; fits = subst (IsClassOf (length s.bytes)) (sym here) s.fits }
    where
      by : (b : Bool) → nat_eq class item.class ≡ b → places item.number (l.lists class) ≡ cond b 1 0 → class ≡ item.class
      by true t stood = eqb-true class item.class t
      by false t stood = absurd (omega (arith, p, stood))

  pub held-evicts : (result : Option (List ℕ)) → Evicts l l' class result → IfSome result (λ key. IsHeldIn (stock_of l) key class)
  held-evicts None e = tt
  held-evicts (Some key) (number, victim, e) =
      let there : 1 ≤ places number (l.lists class) = subst (λ (o : Option ℕ). IfSome o (λ i. 1 ≤ places i (l.lists class))) victim (places-victim (l.lists class)) in
      let b = h.back number key e.leads in
      item_held key b.item b.is (subst (λ k. 1 ≤ places k (l.lists class)) (sym b.numbered) there)

  stock_with : (result : Option (List ℕ)) → Evicts l l' class result → Same (option_map_or (λ key. dropped key (stock_of l)) result (stock_of l)) (stock_of l')
  stock_with None e = stock-same e.1
  stock_with (Some key) (number, victim, e) = stock-out h key e.item e.is e.out

  pub stock-evicts : (result : Option (List ℕ)) → Evicts l l' class result → Same (evicted_from class (stock_of l)) (stock_of l')
  stock-evicts result e = subst (λ (o : Option (List ℕ)). Same (option_map_or (λ key. dropped key (stock_of l)) o (stock_of l)) (stock_of l')) (key-evicts result e) (stock_with result e)

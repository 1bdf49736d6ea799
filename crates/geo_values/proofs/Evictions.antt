-- A class of which the victim is gone is not full.
use Rattle.std.proofs.Common.{◌≡◌, ℕ, List, Option, Some, None, IsSome, sym, ap, subst, ◌∙◌}
use Rattle.geo_slabs.specs.Storage.{IsFull, held_in}
use Rattle.geo_slabs.proofs.Kept.{free_makes_room}
use Rattle.geo_values.specs.Links.{Links}
use Rattle.geo_values.specs.Steps.{CanEvictIfAny, HasVictim, Evicts}
use Rattle.geo_values.specs.declared.parts.Item.{Item}
use Rattle.geo_lru.specs.Lists.{victim_of}

pub victim_can_go : (l : Links) (class : ℕ) → HasVictim l class → CanEvictIfAny l (victim_of (l.lists class))
victim_can_go l class v = subst (CanEvictIfAny l) (sym v.is) v.goes

module _ (l l' : Links) (class : ℕ) (v : HasVictim l class) where
  pub makes_room : (result : Option (List ℕ)) → Evicts l l' class result → IsFull l'.storage class → ⊥
  makes_room None e full = let no : None ≡ Some v.number = sym e.0 ∙ v.is in absurd cc
  makes_room (Some key) (number, victim, e) full =
      let numbers : Some number ≡ Some v.number = sym victim ∙ v.is in
      let one : number ≡ v.number = cc in
      let keys : Some key ≡ Some v.goes.key = sym e.leads ∙ ap l.key one ∙ v.goes.leads in
      let same_key : key ≡ v.goes.key = cc in
      let items : Some v.goes.item ≡ Some e.item = sym v.goes.is ∙ ap l.item (sym same_key) ∙ e.is in
      let item : v.goes.item ≡ e.item = cc in
      free_makes_room l.storage l'.storage e.item.chunk class e.out.storage
      (subst (λ (i : Item). IsSome (held_in l.storage i.chunk)) item v.goes.goes.held)
      (sym (ap (λ (i : Item). i.chunk.class) item) ∙ v.home) full

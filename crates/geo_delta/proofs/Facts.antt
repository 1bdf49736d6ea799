-- That a ring traces its changes is a fact.
use Rattle.std.proofs.Common.{ℕ, List, [], ◌∷◌, Bool, ◌||◌}
use Rattle.std.proofs.Math.Bool.{Bool-set}
use Rattle.geo_records.specs.Operations.{Record}
use Rattle.geo_delta.specs.Changes.{Noted, Ring, has_change, KnowsBut, TracedFrom, Traced}

knows_prop : (but : List ℕ → Bool) (v : List ℕ) (map : List ℕ → Record) → IsProp (KnowsBut but v map)
knows_prop but v map = hlevel (Bool-set)

traced_from_prop : (pending : List ℕ → Bool) (map : List ℕ → Record) (reach : List ℕ) (changes : List Noted)
    → IsProp (TracedFrom pending map reach changes)
traced_from_prop pending map reach [] = knows_prop pending reach map
traced_from_prop pending map reach (c ∷ changes) =
    λ a b i. (
      knows_prop (λ key. pending key || has_change
          (c ∷ changes) key) reach map a.0 b.0 i,
      traced_from_prop pending map c.1 changes a.1 b.1 i,
    )

-- it is a fact, and so can be kept beside a ring
pub traced_prop : (pending : List ℕ → Bool) (map : List ℕ → Record) (ring : Ring) → IsProp (Traced pending map ring)
traced_prop pending map ring = traced_from_prop pending map ring.reach ring.changes

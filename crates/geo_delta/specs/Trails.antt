-- The keys that changed at a site, far back, with what was known after some of the changes.
use Rattle.std.specs.Prelude.{◌≡◌, ℕ, ◌+◌, List, [], ◌∷◌, Bool, ◌||◌, Option, None, Some, map, slice_get}
use Rattle.std.specs.Coded.{Coded}
use Rattle.std.specs.Global.{Box}
use Rattle.std.specs.List.{list_any}
use Rattle.geo_stamp.specs.Vectors.{vector_joined}
use Rattle.geo_records.specs.Keys.{same_key}
use Rattle.geo_records.specs.Operations.{Record}
use Rattle.geo_delta.specs.Changes.{KnowsBut}

-- a key that was changed, and what its site knew after that, where it is noted
abbrev pub Passed : Type 0
Passed = List ℕ × Option (Box (List ℕ))

-- the changes that are kept, oldest first, and how many these may be
pub record Path : Type 0 where
  pub changes : List Passed
  pub most : ℕ

abbrev pub passed_key : Passed → List ℕ
passed_key change = change.0

abbrev pub keys_in : Path → List (List ℕ)
keys_in path = map passed_key path.changes

-- one of the changes is of the key
abbrev pub passes : List Passed → List ℕ → Bool
passes changes key = list_any (λ (c : Passed). same_key key c.0) changes

-- what was known after a change, where that is noted, knows the record of every key that has no later change and is not still to be
-- noted
abbrev pub HoldsBehind : (List ℕ → Bool) → (List ℕ → Record) → Option (Box (List ℕ)) → List Passed → Type 0
HoldsBehind pending map None later = Unit {0}
HoldsBehind pending map (Some known) later = KnowsBut (λ key. pending key || passes later key) known.value map

abbrev pub TrailedFrom : (List ℕ → Bool) → (List ℕ → Record) → List Passed → Type 0
TrailedFrom pending map [] = Unit {0}
TrailedFrom pending map (c ∷ changes) = HoldsBehind pending map c.1 changes × TrailedFrom pending map changes

abbrev pub Trailed : (List ℕ → Bool) → (List ℕ → Record) → Path → Type 0
Trailed pending map path = TrailedFrom pending map path.changes

-- a vector covers what was known after the last of so many changes
pub record IsCovered (base : List ℕ) (count : ℕ) (changes : List Passed) : Type 0 where
  pub before : ℕ
  pub last : count ≡ before + 1
  pub key : List ℕ
  pub known : Box (List ℕ)
  pub there : slice_get changes before ≡ Some (key, Some known)
  pub covers : vector_joined base known.value ≡ base

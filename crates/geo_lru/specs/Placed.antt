-- COLD's items, each with the place that it came to, and what is filed of the active ones: noted, or in an index by their places.
use Rattle.std.specs.Prelude.{◌≡◌, ◌⊎◌, ℕ, ◌<◌, ◌^◌, ◌-◌, ◌&&◌, true, Bool, List, [], ◌∷◌, map, cond, nat_eq, Option, None, Some, Contains}
use Rattle.std.specs.Ordering.{nat_cmp}
use Rattle.std.specs.BTreeMap.{BTreeMap, get}
use Rattle.geo_lru.specs.declared.access.Access.{Access}
use Rattle.geo_lru.specs.declared.cold.Placed.{Placed}
use Rattle.geo_lru.specs.Lists.{Tallied}

-- items with what was seen of each
abbrev pub seen : List (ℕ × Placed) → List (ℕ × Access)
seen es = map (λ e. (e.0, e.1.access)) es

-- places fall from the head on, all below a bound
abbrev pub Falling : ℕ → List (ℕ × Placed) → Type 0
Falling bound [] = Unit {0}
Falling bound (e ∷ es) = (e.1.place < bound) × Falling e.1.place es

-- each active item, with its place, is as P says
abbrev pub EachActive : (ℕ → ℕ → Type 0) → List (ℕ × Placed) → Type 0
EachActive P [] = Unit {0}
EachActive P (e ∷ es) = (e.1.access.active ≡ true → P e.1.place e.0) × EachActive P es

-- the index has the item at the place
abbrev pub IsIndexed : BTreeMap ℕ ℕ → ℕ → ℕ → Type 0
IsIndexed index place item = get nat_cmp index place ≡ Some item

-- or it is noted there
abbrev pub IsFiled : List (ℕ × ℕ) → BTreeMap ℕ ℕ → ℕ → ℕ → Type 0
IsFiled noted index place item = Contains noted (place, item) ⊎ IsIndexed index place item

-- what was seen of an item that was looked up, where it is active and stands at the place
abbrev pub active_there : ℕ → Option Placed → Option Access
active_there place None = None
active_there place (Some p) = cond (nat_eq p.place place && p.access.active) (Some p.access) None

-- a list that nothing falls out of, its tally, and what is filed: where that is whole, each active item, whatever else
pub record IsPlaced (entries : List (ℕ × Placed)) (cap next active : ℕ) (whole : Bool) (noted : List (ℕ × ℕ)) (index : BTreeMap ℕ ℕ) : Type 0 where
  pub tallied : Tallied (seen entries) cap active
  pub falling : next < 2 ^ 64 - 1 → Falling next entries
  pub below : whole ≡ true → next < 2 ^ 64 - 1
  pub each : whole ≡ true → EachActive (IsFiled noted index) entries

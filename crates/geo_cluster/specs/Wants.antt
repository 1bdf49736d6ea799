-- Which lines memory may be wanted for.
use Rattle.std.specs.Prelude.{◌≡◌, ℕ, ◌<◌, ◌||◌, Bool, true, false, List, ◌∷◌, length, Option, MatchOption, None, Some, codes, ◌⊎◌}
use Rattle.std.specs.Str.{bytes_eq}
use Rattle.geo_cluster.specs.Sayings.{Said, SaysSites, SaysAt, SaysClient, SaysSend, SaysTake, SaysTick, SaysRemove, SaysReap, SaysEvict, SaysFill, SaysVersions, SaysRetire, said, skips, split_of}
use Rattle.geo_world.specs.declared.event.Event.{Event}
use Rattle.geo_cluster.specs.Progress.{Progress, can_come}
use Rattle.geo_cluster.specs.Effects.{can_carry}
use Rattle.geo_cluster.specs.Standing.{Stands}
use Rattle.geo_cluster.specs.declared.script.cluster.Cluster.{Cluster}

-- something grows for each line but `at`, which sets the moment and prints nothing
abbrev pub grows : Said → Bool
grows (SaysSites n pages most reap) = true
grows (SaysAt m) = false
grows (SaysClient s bytes) = true
grows (SaysSend s t) = true
grows (SaysTake s k) = true
grows (SaysTick s) = true
grows (SaysRemove s) = true
grows (SaysReap s key) = true
grows (SaysEvict s key) = true
grows (SaysFill s key bytes) = true
grows (SaysVersions s) = true
grows (SaysRetire s t) = true

-- a line for which memory may be wanted: one that can be carried out, and for which something grows
abbrev pub MayWant : Progress → List ℕ → Type 0
MayWant p line = (skips line ≡ false) × MatchOption (said line) ⊥ (λ s. (can_carry p s ≡ true) × (grows s ≡ true))

-- memory is wanted at the first of these lines: it is one for which memory may be wanted, or it is longer than a read
pub record WantsAt (p : Progress) (lines : List (List ℕ)) : Type 0 where
  pub line : List ℕ
  pub more : List (List ℕ)
  pub first : lines ≡ line ∷ more
  pub wants : (16384 < length line) ⊎ MayWant p line

-- what a line says can be carried out from whatever the sites stand at, and something grows for it
abbrev pub WantsFor : Cluster → Said → Type 0
WantsFor old s = (grows s ≡ true) × ((p : Progress) → Stands p old → can_carry p s ≡ true)

-- an event can come from whatever the sites stand at
abbrev pub ComesFor : Cluster → Event → Type 0
ComesFor old event = (p : Progress) → Stands p old → can_come p event ≡ true

-- the name of a line that has a text or a key
abbrev pub is_text_name : List ℕ → Bool
is_text_name name =
    bytes_eq name (codes "client") || (bytes_eq name (codes "reap") || (bytes_eq name (codes "evict") || bytes_eq name (codes "fill")))

abbrev pub has_text_in : Option (List ℕ × List ℕ) → Bool
has_text_in None = false
has_text_in (Some parts) = is_text_name parts.0

abbrev pub has_text : List ℕ → Bool
has_text line = has_text_in (split_of line)

-- whether it can be carried out where there are so many sites
abbrev pub CarriesAt : ℕ → Option Said → Bool → Type 0
CarriesAt sites says can = MatchOption says (can ≡ false) (λ s. (grows s ≡ true) × ((p : Progress) → length p.setups ≡ sites → can_carry p s ≡ can))

-- Which connections are listed for their turn in the next pass, and that there is room to list each.
use Rattle.std.specs.Prelude.{◌≡◌, ◌≢◌, ℕ, ◌+◌, ◌≤◌, Bool, true, false, not, eqb, List, count_by, Option, None, Some}
use Rattle.std.specs.List.{list_any}
use Rattle.slab.specs.Slab.{Slab, get}
use Rattle.geo_crowd.specs.declared.roster.Member.{Member}

module _ {S : Type 0} where
  abbrev pub is_listed : Option (Member S) → Bool
  is_listed None = false
  is_listed (Some member) = member.is_listed

  abbrev pub is_unlisted : Option (Member S) → Bool
  is_unlisted None = false
  is_unlisted (Some member) = not member.is_listed

  -- whether it is listed that stands under a number
  abbrev pub is_listed_at : Slab (Member S) → ℕ → Bool
  is_listed_at members number = is_listed (get members number)

  -- each other number has what it had
  abbrev pub OthersKeep : ℕ → Slab (Member S) → Slab (Member S) → Type 0
  OthersKeep number old new = (other : ℕ) → other ≢ number → get new other ≡ get old other

  -- each number has what it had
  abbrev pub Same : Slab (Member S) → Slab (Member S) → Type 0
  Same old new = (number : ℕ) → get new number ≡ get old number

  -- whoever is listed, or not, stays so
  abbrev pub SameFlags : Slab (Member S) → Slab (Member S) → Type 0
  SameFlags old new = (number : ℕ) → (is_listed_at new number ≡ is_listed_at old number)
      × (is_unlisted (get new number) ≡ is_unlisted (get old number))

  -- beside so many numbers there is room for that of each that is not listed
  abbrev pub HasRoomForAll : Slab (Member S) → ℕ → ℕ → Type 0
  HasRoomForAll members count capacity = count + count_by is_unlisted members.slots ≤ capacity

-- a number stands in a list
abbrev pub StandsIn : List ℕ → ℕ → Type 0
StandsIn numbers number = list_any (eqb number) numbers ≡ true

-- those that are listed stand in a list
abbrev pub AllListed : (ℕ → Bool) → List ℕ → Type 0
AllListed listed numbers = (number : ℕ) → listed number ≡ true → StandsIn numbers number

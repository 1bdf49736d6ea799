-- The three lists of a slab class, of items that are numbers.
pub use Rattle.geo_lru.specs.Rules.{unseen, touched, moved, active_count, last_active, entered, victim_of, count, hot_limit, warm_limit, leaves_list, warm_leaves}
use Rattle.geo_lru.specs.Rules.{ListsOf, present_by, places_by, touched_in_by, without_by, brought_forward_by, touched_by, left_by, hot_tail_moved_by, warm_tail_moved_by, cold_active_moved_by, hot_juggled_by, warm_juggled_by, cold_juggled_by, juggled_by}
use Rattle.std.specs.Prelude.{◌≡◌, ℕ, ◌-◌, ◌^◌, ◌≤◌, nat_eq, List, Option}
use Rattle.geo_lru.specs.declared.access.Access.{Access}

abbrev pub Lists : Type 0
Lists = ListsOf ℕ

abbrev pub present : ℕ → List (ℕ × Access) → ℕ
present = present_by nat_eq

abbrev pub places : ℕ → Lists → ℕ
places = places_by nat_eq

-- no item stands at two places
pub record IsApart (l : Lists) : Type 0 where
  pub once : (item : ℕ) → places item l ≤ 1

-- items in a list that nothing falls out of, beside the number of those that are active
pub record Tallied (items : List (ℕ × Access)) (cap active : ℕ) : Type 0 where
  pub unbounded : cap ≡ 2 ^ 64 - 1
  pub tally : active ≡ active_count items

abbrev pub touched_in : ℕ → List (ℕ × Access) → List (ℕ × Access)
touched_in = touched_in_by nat_eq

abbrev pub without : ℕ → List (ℕ × Access) → List (ℕ × Access)
without = without_by nat_eq

abbrev pub brought_forward : ℕ → List (ℕ × Access) → List (ℕ × Access)
brought_forward = brought_forward_by nat_eq

abbrev pub touched_at : ℕ → Lists → Lists
touched_at = touched_by nat_eq

abbrev pub left : ℕ → Lists → Lists
left = left_by nat_eq

abbrev pub hot_tail_moved : Lists → ℕ × Access → Lists
hot_tail_moved = hot_tail_moved_by nat_eq

abbrev pub warm_tail_moved : Lists → ℕ × Access → Lists
warm_tail_moved = warm_tail_moved_by nat_eq

abbrev pub cold_active_moved : Lists → ℕ × Access → Lists
cold_active_moved = cold_active_moved_by nat_eq

abbrev pub hot_juggled : Lists → Option Lists
hot_juggled = hot_juggled_by nat_eq

abbrev pub warm_juggled : Lists → Option Lists
warm_juggled = warm_juggled_by nat_eq

abbrev pub cold_juggled : Lists → Option Lists
cold_juggled = cold_juggled_by nat_eq

abbrev pub juggled : Lists → Option Lists
juggled = juggled_by nat_eq

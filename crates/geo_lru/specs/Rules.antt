-- The three lists of a slab class, of items of any kind, and the rules of moving between them (memcached's doc/new_lru.txt). `same`
-- tells whether two items are one.
use Rattle.std.specs.Prelude.{ℕ, ◌+◌, ◌*◌, ◌/◌, Bool, true, false, not, nat_lt, cond, List, ◌∷◌, length, reverse, find, count_by, Option, Some, is_some}
use Rattle.std.specs.Option.{option_map, option_map_or}
use Rattle.std.specs.Map.{keys_of, values_of, lookup, remove_entry, set_value}
use Rattle.lru.specs.LruCache.{last_entry}
use Rattle.geo_lru.specs.declared.access.Access.{Access}

-- items with what was seen of each, head first
pub record ListsOf (I : Type 0) : Type 0 where
  pub hot : List (I × Access)
  pub warm : List (I × Access)
  pub cold : List (I × Access)

-- both bits are off when an item comes
abbrev pub unseen : Access
unseen = record { fetched = false; active = false }

-- a hit on an item without FETCHED sets FETCHED, any other sets ACTIVE
abbrev pub touched : Access → Access
touched a = cond a.fetched (record a { active = true }) (record a { fetched = true })

-- a move clears ACTIVE and keeps FETCHED
abbrev pub moved : Access → Access
moved a = record a { active = false }

-- how often the item stands in a list
abbrev pub present_by : {I : Type 0} → (I → I → Bool) → I → List (I × Access) → ℕ
present_by same item es = count_by (same item) (keys_of es)

-- how often it stands in the three
abbrev pub places_by : {I : Type 0} → (I → I → Bool) → I → ListsOf I → ℕ
places_by same item l = present_by same item l.hot + present_by same item l.warm + present_by same item l.cold

-- how many items are active
abbrev pub active_count : {I : Type 0} → List (I × Access) → ℕ
active_count es = count_by (λ a. a.active) (values_of es)

-- a list after a hit on the item: it stays where it is
abbrev pub touched_in_by : {I : Type 0} → (I → I → Bool) → I → List (I × Access) → List (I × Access)
touched_in_by same item es = option_map_or (λ a. set_value (same item) es (touched a)) (lookup (same item) es) es

-- a list without the item
abbrev pub without_by : {I : Type 0} → (I → I → Bool) → I → List (I × Access) → List (I × Access)
without_by same item es = remove_entry (same item) es

-- a list with the item moved to its head
abbrev pub brought_forward_by : {I : Type 0} → (I → I → Bool) → I → List (I × Access) → List (I × Access)
brought_forward_by same item es = option_map_or (λ a. (item, moved a) ∷ without_by same item es) (lookup (same item) es) es

-- the active item nearest the tail
abbrev pub last_active : {I : Type 0} → List (I × Access) → Option (I × Access)
last_active es = find (λ e. e.1.active) (reverse es)

-- an item comes to HOT's head
abbrev pub entered : {I : Type 0} → I → ListsOf I → ListsOf I
entered item l = record l { hot = (item, unseen) ∷ l.hot }

-- a hit moves nothing
abbrev pub touched_by : {I : Type 0} → (I → I → Bool) → I → ListsOf I → ListsOf I
touched_by same item l = record {
  hot = touched_in_by same item l.hot;
  warm = touched_in_by same item l.warm;
  cold = touched_in_by same item l.cold;
}

-- an item is gone
abbrev pub left_by : {I : Type 0} → (I → I → Bool) → I → ListsOf I → ListsOf I
left_by same item l = record { hot = without_by same item l.hot; warm = without_by same item l.warm; cold = without_by same item l.cold }

-- COLD's tail, else WARM's, else HOT's
abbrev pub victim_of : {I : Type 0} → ListsOf I → Option I
victim_of l = option_map (λ e. e.0) (option_map_or Some (last_entry l.cold) (option_map_or Some (last_entry l.warm) (last_entry l.hot)))

-- the items of the class
abbrev pub count : {I : Type 0} → ListsOf I → ℕ
count l = length l.hot + length l.warm + length l.cold

abbrev pub hot_limit : {I : Type 0} → ListsOf I → ℕ
hot_limit l = 20 * count l / 100

abbrev pub warm_limit : {I : Type 0} → ListsOf I → ℕ
warm_limit l = 40 * count l / 100

-- HOT's tail goes to WARM's head if active, else to COLD's
abbrev pub hot_tail_moved_by : {I : Type 0} → (I → I → Bool) → ListsOf I → I × Access → ListsOf I
hot_tail_moved_by same l e = cond e.1.active
    (record { hot = without_by same e.0 l.hot; warm = (e.0, moved e.1) ∷ l.warm; cold = l.cold })
    (record { hot = without_by same e.0 l.hot; warm = l.warm; cold = (e.0, moved e.1) ∷ l.cold })

-- WARM's tail goes to WARM's head if active, else to COLD's
abbrev pub warm_tail_moved_by : {I : Type 0} → (I → I → Bool) → ListsOf I → I × Access → ListsOf I
warm_tail_moved_by same l e = cond e.1.active
    (record { hot = l.hot; warm = (e.0, moved e.1) ∷ without_by same e.0 l.warm; cold = l.cold })
    (record { hot = l.hot; warm = without_by same e.0 l.warm; cold = (e.0, moved e.1) ∷ l.cold })

-- an active item of COLD goes to WARM's head
abbrev pub cold_active_moved_by : {I : Type 0} → (I → I → Bool) → ListsOf I → I × Access → ListsOf I
cold_active_moved_by same l e = record { hot = l.hot; warm = (e.0, moved e.1) ∷ l.warm; cold = without_by same e.0 l.cold }

abbrev pub hot_juggled_by : {I : Type 0} → (I → I → Bool) → ListsOf I → Option (ListsOf I)
hot_juggled_by same l = option_map (hot_tail_moved_by same l) (last_entry l.hot)

abbrev pub warm_juggled_by : {I : Type 0} → (I → I → Bool) → ListsOf I → Option (ListsOf I)
warm_juggled_by same l = option_map (warm_tail_moved_by same l) (last_entry l.warm)

abbrev pub cold_juggled_by : {I : Type 0} → (I → I → Bool) → ListsOf I → Option (ListsOf I)
cold_juggled_by same l = option_map (cold_active_moved_by same l) (last_active l.cold)

-- the one move that is due, if any: HOT's tail where HOT is longer than its limit, else WARM's tail where WARM is longer than
-- its own, else the active item of COLD nearest the tail
abbrev pub juggled_by : {I : Type 0} → (I → I → Bool) → ListsOf I → Option (ListsOf I)
juggled_by same l = cond (nat_lt (hot_limit l) (length l.hot)) (hot_juggled_by same l)
    (cond (nat_lt (warm_limit l) (length l.warm)) (warm_juggled_by same l)
    (cold_juggled_by same l))

-- whether the move of WARM's tail takes it to another list: an active one stays in WARM
abbrev pub warm_leaves : {I : Type 0} → ListsOf I → Bool
warm_leaves l = option_map_or (λ e. not e.1.active) (last_entry l.warm) false

-- whether the move that is due, if any, takes an item to another list
abbrev pub leaves_list : {I : Type 0} → ListsOf I → Bool
leaves_list l = cond (nat_lt (hot_limit l) (length l.hot)) (is_some (last_entry l.hot))
    (cond (nat_lt (warm_limit l) (length l.warm)) (warm_leaves l)
    (is_some (last_active l.cold)))

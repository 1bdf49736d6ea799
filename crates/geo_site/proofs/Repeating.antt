-- Values that a line shows more than once.
use Rattle.std.proofs.Common.{◌≡◌, ℕ, Bool, true, false, cond, List, [], ◌∷◌, ◌++◌, Option, None, Some, refl, ap}
use Rattle.std.specs.List.{All, list_any}
use Rattle.std.proofs.lemmas.List.Elements.{All-append, All-cons, All-nil}
use Rattle.geo_memcache.specs.Entries.{Entry, is_live}
use Rattle.geo_records.specs.Keys.{same_key}
use Rattle.geo_site.specs.Entries.{Visible, found_at, found_of, renewed, found_after, touched_after, touched_of}
use Rattle.geo_site.specs.Repeats.{Shows}

module _ (numbers : Bool) (seen : Visible) where
  one_shows : (key : List ℕ) (o : Option Entry) → seen key ≡ o → All (Shows numbers seen) (found_at numbers key o)
  one_shows key None is = All-nil (Shows numbers seen)
  one_shows key (Some e) is = All-cons (Shows numbers seen) _ [] (ap (found_at numbers key) is) (All-nil (Shows numbers seen))

  pub found_shows : (keys : List (List ℕ)) → All (Shows numbers seen) (found_of numbers seen keys)
  found_shows [] = All-nil (Shows numbers seen)
  found_shows (key ∷ keys) = All-append (Shows numbers seen) (found_at numbers key (seen key)) (found_of numbers seen keys) (one_shows key (seen key) refl) (found_shows keys)

  -- a touch leaves what is shown of a key as it is
  after_shows : (now expiry : ℕ) (before : List (List ℕ)) (key : List ℕ) → All (Shows numbers seen) (found_after now expiry numbers seen before key)
  after_shows now expiry before key = by (list_any (same_key key) before) (seen key) refl
    where
      live : (t : Bool) (e : Entry) → seen key ≡ Some e
          → All (Shows numbers seen) (found_at numbers key (cond t (Some (record { bytes = e.bytes; flags = e.flags; expiry = expiry; unique = e.unique })) None))
      live true e is = one_shows key (Some e) is
      live false e is = All-nil (Shows numbers seen)

      by : (t : Bool) (o : Option Entry) → seen key ≡ o → All (Shows numbers seen) (found_at numbers key (cond t (renewed now expiry o) o))
      by true None is = All-nil (Shows numbers seen)
      by false None is = All-nil (Shows numbers seen)
      by true (Some e) is = live (is_live expiry now) e is
      by false (Some e) is = one_shows key (Some e) is

  all_show : (now expiry : ℕ) (before keys : List (List ℕ)) → All (Shows numbers seen) (touched_after now expiry numbers seen before keys)
  all_show now expiry before [] = All-nil (Shows numbers seen)
  all_show now expiry before (key ∷ keys) =
      All-append (Shows numbers seen) (found_after now expiry numbers seen before key) (touched_after now expiry numbers seen (before ++ key ∷ []) keys)
      (after_shows now expiry before key) (all_show now expiry (before ++ key ∷ []) keys)

  pub touched_shows : (now expiry : ℕ) (keys : List (List ℕ)) → All (Shows numbers seen) (touched_of now expiry numbers seen keys)
  touched_shows now expiry keys = all_show now expiry [] keys

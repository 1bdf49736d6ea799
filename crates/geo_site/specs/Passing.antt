-- Which keys of a line came before.
use Rattle.std.specs.Prelude.{◌≡◌, ℕ, List, IsSome, MatchOption}
use Rattle.std.specs.List.{list_any}
use Rattle.geo_records.specs.Keys.{same_key}
use Rattle.geo_site.specs.Entries.{Visible}
use Rattle.geo_site.specs.declared.passed.Passed.{Passed}

-- of the keys that are visible, a set has those that came before and no others, where there is one
abbrev pub HasPassed : Visible → Passed → List (List ℕ) → Type 0
HasPassed visible passed before =
    MatchOption passed.keys (Unit {0}) (λ keys. (q : _) → IsSome (visible q)
    → list_any (λ k. same_key q k.now) keys.keys ≡ list_any (same_key q) before)

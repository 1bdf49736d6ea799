-- Which keys are still to be noted as changed.
use Rattle.std.specs.Prelude.{ℕ, Bool, List}
use Rattle.std.specs.List.{list_any}
use Rattle.geo_records.specs.Keys.{same_key}
use Rattle.geo_versions.specs.Maps.{Rec}

-- one key
abbrev pub is_key : List ℕ → List ℕ → Bool
is_key key q = same_key q key

-- the keys of records
abbrev pub is_listed : List (List ℕ × Rec) → List ℕ → Bool
is_listed records q = list_any (λ e. same_key q e.0) records

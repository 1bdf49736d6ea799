-- States in which no register is below or at the floor: what a set of operations means, and what sites hold.
use Rattle.std.specs.Prelude.{◌≡◌, ℕ, List}
use Rattle.geo_records.specs.Operations.{State, Record, above_both}

abbrev pub IsNormal : State → Type 0
IsNormal s = (key : List ℕ) → ◌≡◌ {A = Record} (above_both s.0 (s.1 key)) (s.1 key)

abbrev pub Normal : Type 0
Normal = (s : State) × IsNormal s

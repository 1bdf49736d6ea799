-- How many steps a maintenance makes.
use Rattle.std.specs.Prelude.{◌≡◌, ℕ, ◌+◌, ◌≤◌, Bool, false, cond}
use Rattle.geo_station.specs.declared.maintain.Maintained.{Maintained}

-- a step for each key that was deleted, and one more at most where one was refused
pub record ReapsSo (before after count : ℕ) (refused : Bool) : Type 0 where
  pub others : ℕ
  pub few : others ≤ 1
  pub none : refused ≡ false → others ≡ 0
  pub most : count ≤ 16
  pub is : after ≡ before + (count + others)

-- beside a flush and the deletes two steps at most, and where nothing was refused the removal alone
pub record Maintains (before after : ℕ) (done : Maintained) : Type 0 where
  pub others : ℕ
  pub few : others ≤ 2
  pub removal : done.refused ≡ false → others ≡ 1
  pub reaps : done.reaped ≤ 16
  pub is : after ≡ before + (cond done.flushed 1 0 + done.reaped + others)

-- What a turn leaves, and what the turns of a pass come to.
use Rattle.std.specs.Prelude.{◌≡◌, ℕ, ◌+◌, Bool, true, false, List, [], ◌∷◌, Option, None, Some, Ok, Err}
use Rattle.geo_crowd.specs.declared.standing.Standing.{Standing}
use Rattle.geo_crowd.specs.declared.standing.Standing.TheVariants.{Again, Waits, Over}

-- a connection goes on where it says so
abbrev pub goes_on : Option Standing → Bool
goes_on (Some Again) = true
goes_on (Some Waits) = false
goes_on (Some (Over outcome)) = false
goes_on None = false

-- those that go on have a turn in the next pass too
abbrev pub next_due : Option Standing → ℕ → List ℕ → List ℕ
next_due (Some Again) number more = number ∷ more
next_due (Some Waits) number more = more
next_due (Some (Over outcome)) number more = more
next_due None number more = more

-- a turn that ends a connection counts once
abbrev pub ends_by : Option Standing → ℕ
ends_by (Some (Over outcome)) = 1
ends_by (Some Again) = 0
ends_by (Some Waits) = 0
ends_by None = 0

-- and once more where a fault ended it
abbrev pub faults_by : Option Standing → ℕ
faults_by (Some (Over (Err fault))) = 1
faults_by (Some (Over (Ok end))) = 0
faults_by (Some Again) = 0
faults_by (Some Waits) = 0
faults_by None = 0

-- what turns come to: the numbers of those that go on, and how many ended, and how many by a fault
pub record Sums : Type 0 where
  pub later : List ℕ
  pub ended : ℕ
  pub faults : ℕ

pub record IsNothing (sums : Sums) : Type 0 where
  pub later : sums.later ≡ []
  pub ended : sums.ended ≡ 0
  pub faults : sums.faults ≡ 0

-- one turn, and what those after it come to
pub record IsSum (number : ℕ) (standing : Option Standing) (more sums : Sums) : Type 0 where
  pub later : sums.later ≡ next_due standing number more.later
  pub ended : sums.ended ≡ ends_by standing + more.ended
  pub faults : sums.faults ≡ faults_by standing + more.faults

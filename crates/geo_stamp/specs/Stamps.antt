-- Stamps (Lamport 1978): when an operation was issued, by its site's clock, and where.
use Rattle.std.specs.Prelude.{ℕ, ◌≤◌}
use Rattle.std.specs.declared.cmp.Ordering.{Ordering}
use Rattle.std.specs.Ordering.{ordering_then, nat_cmp}

-- a time and a site
pub record Moment : Type 0 where
  pub time : ℕ
  pub site : ℕ

-- the greatest time, 2^56 - 1, and the greatest number of a site
abbrev pub last_time : ℕ
last_time = 72057594037927935

abbrev pub most_sites : ℕ
most_sites = 16

abbrev pub InRange : ℕ → ℕ → Type 0
InRange time site = (1 ≤ time) × (time ≤ last_time) × (1 ≤ site) × (site ≤ most_sites)

-- by time, and then by site
abbrev pub stamp_cmp : Moment → Moment → Ordering
stamp_cmp a b = ordering_then (nat_cmp a.time b.time) (nat_cmp a.site b.site)

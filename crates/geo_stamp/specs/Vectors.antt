-- Vectors of clocks: the entry of site j stands at index j - 1, and one that is missing is 0.
use Rattle.std.specs.Prelude.{◌≡◌, ℕ, zero, suc, ◌≤◌, max, min, List, [], ◌∷◌, length, slice_index, slice_set}
pub use Rattle.geo_laws.specs.Vectors.{vector_joined}
use Rattle.geo_stamp.specs.Stamps.{Moment, last_time}

abbrev pub entry_of : List ℕ → ℕ → ℕ
entry_of v zero = 0
entry_of v (suc j) = slice_index v j

-- all zero
abbrev pub zeros : ℕ → List ℕ
zeros zero = []
zeros (suc n) = 0 ∷ zeros n

-- the greatest entry, or 0 where there is none
abbrev pub greatest_of : List ℕ → ℕ
greatest_of [] = 0
greatest_of (x ∷ xs) = max x (greatest_of xs)

-- the least entry, or the last time where there is none
abbrev pub least_of : List ℕ → ℕ
least_of [] = last_time
least_of (x ∷ xs) = min x (least_of xs)

-- one entry raised
abbrev pub raised : List ℕ → ℕ → ℕ → List ℕ
raised v zero time = v
raised v (suc j) time = slice_set v j (max (slice_index v j) time)

-- the operations that a vector knows: those up to the time of their site's entry
abbrev pub Knows : List ℕ → Moment → Type 0
Knows v stamp = stamp.time ≤ entry_of v stamp.site

-- no entry is above the last time
abbrev pub EntriesInRange : List ℕ → Type 0
EntriesInRange v = (k : ℕ) → slice_index v k ≤ last_time

-- entries past the sites are 0, and none is above the last time
pub record IsVector (entries : List ℕ) (sites : ℕ) : Type 0 where
  pub many : length entries ≡ 16
  pub fits : sites ≤ 16
  pub rest : (k : ℕ) → sites ≤ k → slice_index entries k ≡ 0
  pub range : EntriesInRange entries

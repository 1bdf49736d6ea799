-- A list in chunks: its elements, and for how many more there is room.
use Rattle.std.specs.Prelude.{◌≡◌, ◌≤◌, ◌<◌, ℕ, ◌+◌, ◌-◌, List, [], ◌∷◌, ◌++◌, length, Option, None, Some, Vec, vec_capacity}
use Rattle.std.specs.List.{All}
use Rattle.std.specs.declared.alloc.Global.{Global}

-- how many elements a chunk has room for, and how many full chunks there may be
abbrev pub most_in_chunk : ℕ
most_in_chunk = 256

abbrev pub most_chunks : ℕ
most_chunks = 1099511627776

pub record Chunked (T : Type 0) : Type 0 where
  pub items : List T
  pub room : ℕ

-- the elements of full chunks, one chunk after the other
abbrev pub joined : {T : Type 0} → List (Vec T Global) → List T
joined [] = []
joined (chunk ∷ chunks) = chunk.items ++ joined chunks

-- the room of the next chunk, if there is one
abbrev pub spare_room : {T : Type 0} → Option (Vec T Global) → ℕ
spare_room None = 0
spare_room (Some chunk) = most_in_chunk

abbrev pub chunked_in : {T : Type 0} → List (Vec T Global) → List T → Option (Vec T Global) → Chunked T
chunked_in full last spare = record { items = joined full ++ last; room = (most_in_chunk - length last) + spare_room spare }

-- the next chunk is empty, has its memory, and has its place behind the full ones
abbrev pub IsSpare : {T : Type 0} → Vec (Vec T Global) Global → Option (Vec T Global) → Type 0
IsSpare full None = Unit {0}
IsSpare full (Some chunk) = (chunk.items ≡ []) × (most_in_chunk ≤ vec_capacity chunk) × (length full.items < vec_capacity full)
    × (length full.items < most_chunks)

abbrev pub AllEven : {T : Type 0} → List (Vec T Global) → Type 0
AllEven full = All (λ chunk. length chunk.items ≡ most_in_chunk) full

pub record IsChunked {T : Type 0} (full : Vec (Vec T Global) Global) (last : Vec T Global) (spare : Option (Vec T Global)) : Type 0 where
  pub even : AllEven full.items
  pub few : length full.items ≤ most_chunks
  pub short : length last.items ≤ most_in_chunk
  pub roomy : most_in_chunk ≤ vec_capacity last
  pub next : IsSpare full spare

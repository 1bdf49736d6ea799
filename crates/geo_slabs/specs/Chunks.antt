-- The chunks of one slab class: which hold a value, and its bytes.
use Rattle.std.specs.Prelude.{◌≡◌, ℕ, zero, suc, ◌+◌, ◌*◌, ◌/◌, ◌%◌, ◌<◌, ◌≤◌, ◌-◌, ◌⊎◌, cond, nat_eq, if◌then◌else◌, ◌==◌, List, [], ◌∷◌, ◌++◌, length, replicate, take, drop, Option, Some, None, slice_index_or, slice_get, slice_set, map, Vec, vec_capacity}
use Rattle.std.specs.List.{All}
use Rattle.std.specs.declared.alloc.Global.{Global}
use Rattle.std.specs.Int.{w32, from_be_bytes}
use Rattle.geo_slabs.specs.declared.«class».FreeChunks.{FreeChunks}

-- a class: its chunks by number, each with the bytes that it holds, if it holds any
pub record ClassState : Type 0 where
  pub chunks : List (Option (List ℕ))
  -- how many bytes a chunk has room for
  pub chunk_bytes : ℕ
  -- how many chunks a page has
  pub per_page : ℕ
  -- how many more pages it may take
  pub room : ℕ

-- how many bytes a page has
abbrev pub page_bytes : ℕ
page_bytes = 1048576

-- the bytes of each page
abbrev pub bytes_of : List (Vec ℕ Global) → List (List ℕ)
bytes_of pages = map (λ p. p.items) pages

-- the first n bytes of the chunk k
abbrev pub read : ℕ → ℕ → List (List ℕ) → ℕ → ℕ → List ℕ
read chunk_bytes per_page pages k n = take n (drop ((k % per_page) * chunk_bytes) (slice_index_or pages (k / per_page) []))

-- the chunks from number k on, with the bytes that `look` finds
abbrev pub chunks_from : (ℕ → ℕ → List ℕ) → ℕ → List (Option ℕ) → List (Option (List ℕ))
chunks_from look k [] = []
chunks_from look k (None ∷ os) = None ∷ chunks_from look (suc k) os
chunks_from look k (Some n ∷ os) = Some (look k n) ∷ chunks_from look (suc k) os

-- one of these chunks is free
pub record HasFree (chunks : List (Option (List ℕ))) : Type 0 where
  pub number : ℕ
  pub free : slice_get chunks number ≡ Some None

-- 1 for a chunk that is free, else 0
abbrev pub free_cell : Option (Option ℕ) → ℕ
free_cell None = 0
free_cell (Some None) = 1
free_cell (Some (Some n)) = 0

-- how often the number is in the list
abbrev pub times : ℕ → List ℕ → ℕ
times k [] = 0
times k (x ∷ xs) = cond (nat_eq k x) 1 0 + times k xs

-- each chunk that was freed is listed once, and no other number is
abbrev pub ListsFree : List (Option ℕ) → List ℕ → Type 0
ListsFree os free = (k : ℕ) → times k free ≡ free_cell (slice_get os k)

-- each length fits a chunk
abbrev pub AllFit : ℕ → List (Option ℕ) → Type 0
AllFit chunk_bytes os = (k n : ℕ) → slice_get os k ≡ Some (Some n) → n ≤ chunk_bytes

-- each chunk that was used lies within its page
abbrev pub AllReach : ℕ → ℕ → List (List ℕ) → ℕ → Type 0
AllReach chunk_bytes per_page pages used = (k : ℕ) → k < used
    → (k % per_page) * chunk_bytes + chunk_bytes ≤ length (slice_index_or pages (k / per_page) [])

-- each page has its memory
abbrev pub AllReserved : List (Vec ℕ Global) → Type 0
AllReserved pages = All (λ (page : Vec ℕ Global). page_bytes ≤ vec_capacity page) pages

-- a page with zeros behind its bytes, up to an end
abbrev pub grown : ℕ → List ℕ → List ℕ
grown end page = page ++ replicate (end - length page) 0

-- how many chunks are free
abbrev pub count_free : List (Option ℕ) → ℕ
count_free [] = 0
count_free (o ∷ os) = free_cell (Some o) + count_free os

-- the lengths of all chunks: behind those that were used come those that never were
abbrev pub with_fresh : List (Option ℕ) → ℕ → List (Option ℕ)
with_fresh lengths many = lengths ++ replicate (many - length lengths) None

-- a chunk whose length is known: one that was used before, or the next that never was
abbrev pub placed : List (Option ℕ) → ℕ → Option ℕ → List (Option ℕ)
placed lengths number cell = if number == length lengths then lengths ++ cell ∷ [] else slice_set lengths number cell

-- the lengths once a chunk's number comes with the length of its value, or alone where it was freed
abbrev pub noted : List (Option ℕ) → List ℕ → List (Option ℕ)
noted lengths [] = lengths
noted lengths (number ∷ []) = placed lengths number None
noted lengths (number ∷ long ∷ more) = placed lengths number (Some long)

-- a chunk holds a value of so many bytes
abbrev pub HoldsSoMany : ℕ → Option (Option (List ℕ)) → Type 0
HoldsSoMany long None = ⊥
HoldsSoMany long (Some None) = ⊥
HoldsSoMany long (Some (Some held)) = length held ≡ long

-- the number in the first four bytes of the chunk k
abbrev pub link : ℕ → ℕ → List (List ℕ) → ℕ → ℕ
link chunk_bytes per_page pages k = from_be_bytes w32 (read chunk_bytes per_page pages k 4)

-- these bytes are there
pub record HasLink (chunk_bytes per_page : ℕ) (pages : List (List ℕ)) (k : ℕ) : Type 0 where
  pub page : k / per_page < length pages
  pub within : (k % per_page) * chunk_bytes + 4 ≤ length (slice_index_or pages (k / per_page) [])

-- so many chunks that were freed, the last one first, each with the number of the one before it
abbrev pub freed_from : (ℕ → ℕ) → ℕ → ℕ → List ℕ
freed_from next last zero = []
freed_from next last (suc n) = last ∷ freed_from next (next last) n

abbrev pub freed_in : (ℕ → ℕ) → FreeChunks → List ℕ
freed_in next free = freed_from next free.last free.freed

-- how a chunk is taken: the one that was freed last, else the next that was never used, of `many` that there are
abbrev pub TakeDoes : (ℕ → ℕ) → ℕ → FreeChunks → Option (ℕ × FreeChunks) → Type 0
TakeDoes next many free (Some (number, rest)) =
    ((number ≡ free.last) × (free.freed ≡ rest.freed + 1) × (rest.last ≡ next free.last) × (rest.used ≡ free.used))
    ⊎ ((free.freed ≡ 0) × (rest.freed ≡ 0) × (number ≡ free.used) × (number < many) × (rest.used ≡ free.used + 1))
TakeDoes next many free None = (free.freed ≡ 0) × (many ≤ free.used)

-- what holds of a class's pages, the lengths of the chunks that were used, the chunks that are free, and the room for pages
pub record IsClass (chunk_bytes per_page most_pages : ℕ) (pages : List (Vec ℕ Global)) (lengths : List (Option ℕ)) (free : FreeChunks)
    (pages_has : ℕ) : Type 0 where
  pub whole : per_page * chunk_bytes ≡ 1048576
  pub least : 4 ≤ chunk_bytes
  pub used : free.used ≡ length lengths
  pub many : length lengths ≤ per_page * length (bytes_of pages)
  pub listed : ListsFree lengths (freed_in (link chunk_bytes per_page (bytes_of pages)) free)
  pub fit : AllFit chunk_bytes lengths
  pub reach : AllReach chunk_bytes per_page (bytes_of pages) (length lengths)
  pub reserved : AllReserved pages
  pub counted : free.freed ≡ count_free lengths
  pub within : length (bytes_of pages) ≤ most_pages
  pub pages_room : most_pages ≤ pages_has
  pub numbered : per_page * most_pages ≤ 1073741824

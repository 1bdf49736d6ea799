-- The chunks of all slab classes, and the pages that no class has.
use Rattle.std.specs.Prelude.{◌≡◌, ℕ, zero, suc, ◌+◌, ◌-◌, ◌*◌, ◌^◌, ◌<◌, ◌≤◌, ◌==◌, if◌then◌else◌, List, [], ◌∷◌, ◌++◌, length, replicate, Option, Some, None, slice_get, slice_set, slice_index_or, ◌⊎◌, Result, Ok, Err}
use Rattle.geo_slabs.specs.declared.slabs.SlabsError.{SlabsError}
use Rattle.geo_slabs.specs.declared.slabs.SlabsError.TheVariants.{TooFewPages, TooManyPages, Memory}
use Rattle.geo_slabs.specs.Chunks.{ClassState}
use Rattle.geo_slabs.specs.declared.slabs.Chunk.{Chunk}

-- how many classes there are
abbrev pub class_count : ℕ
class_count = 15

-- how many bytes a chunk of a class has room for, and how many such chunks a page has
abbrev pub chunk_bytes : ℕ → ℕ
chunk_bytes class = 64 * 2 ^ class

abbrev pub chunks_a_page : ℕ → ℕ
chunks_a_page class = 2 ^ (14 - class)

-- the least class whose chunks have room for so many bytes
abbrev pub IsClassOf : ℕ → ℕ → Type 0
IsClassOf bytes class = (class < class_count) × (bytes ≤ chunk_bytes class) × ((other : ℕ) → other < class → chunk_bytes other < bytes)

-- the classes by number, and how many pages are spare
pub record Storage : Type 0 where
  pub classes : List ClassState
  pub spare : ℕ

abbrev pub no_class : ClassState
no_class = record { chunks = []; chunk_bytes = 0; per_page = 0; room = 0 }

abbrev pub class_in : Storage → ℕ → ClassState
class_in storage class = slice_index_or storage.classes class no_class

-- the chunks of a class by number, each with the bytes that it holds, if it holds any
abbrev pub chunks_in : Storage → ℕ → List (Option (List ℕ))
chunks_in storage class = (class_in storage class).chunks

-- the bytes that a chunk holds, which are as many as its length says
abbrev pub held_of : ℕ → Option (Option (List ℕ)) → Option (List ℕ)
held_of long None = None
held_of long (Some None) = None
held_of long (Some (Some held)) = if length held == long then Some held else None

abbrev pub held_in : Storage → Chunk → Option (List ℕ)
held_in storage chunk = held_of chunk.length (slice_get (chunks_in storage chunk.class) chunk.number)

-- a chunk once it holds these bytes
abbrev pub so_long : Chunk → List ℕ → Chunk
so_long chunk bytes = record chunk { length = length bytes }

-- no chunk of these is free
abbrev pub AllHeld : List (Option (List ℕ)) → Type 0
AllHeld chunks = (number : ℕ) → slice_get chunks number ≡ Some None → ⊥

-- a class is full: none of its chunks is free, and no page is spare
abbrev pub IsFull : Storage → ℕ → Type 0
IsFull storage class = AllHeld (chunks_in storage class) × (storage.spare ≡ 0)

-- a class with other chunks
abbrev pub with_chunks : Storage → ℕ → List (Option (List ℕ)) → Storage
with_chunks storage class chunks =
    let old = class_in storage class in
    record { classes = slice_set storage.classes class (record old { chunks = chunks }); spare = storage.spare }

-- a class takes a spare page, whose chunks are free
abbrev pub with_page : Storage → ℕ → Storage
with_page storage class =
    let old = class_in storage class in
    record {
      classes = slice_set storage.classes class
          (record old { chunks = old.chunks ++ replicate old.per_page None; room = old.room - 1 });
      spare = storage.spare - 1;
    }

-- a chunk holds bytes, or none
abbrev pub with_held : Storage → ℕ → ℕ → Option (List ℕ) → Storage
with_held storage class number held = with_chunks storage class (slice_set (chunks_in storage class) number held)

-- bytes are put into a chunk of the class that was free
pub record IsPut (old new : Storage) (class : ℕ) (bytes : List ℕ) (chunk : Chunk) : Type 0 where
  pub class_is : chunk.class ≡ class
  pub length_is : chunk.length ≡ length bytes
  pub was_free : slice_get (chunks_in old class) chunk.number ≡ Some None
  pub holds : new ≡ with_held old class chunk.number (Some bytes)

-- what a put does: where no chunk of the class is free it takes a spare page first, and without one nothing is done
abbrev pub PutDoes : Storage → Storage → ℕ → List ℕ → Option Chunk → Type 0
PutDoes old new class bytes (Some chunk) = IsPut old new class bytes chunk
    ⊎ (AllHeld (chunks_in old class) × (0 < old.spare) × IsPut (with_page old class) new class bytes chunk)
PutDoes old new class bytes None = IsFull old class × (new ≡ old)

-- all classes at first: each has a page whose chunks are free, and room for all that are spare
abbrev pub first_class : ℕ → ℕ → ClassState
first_class pages class = record {
  chunks = replicate (chunks_a_page class) None;
  chunk_bytes = chunk_bytes class;
  per_page = chunks_a_page class;
  room = pages - 1;
}

abbrev pub first_classes : ℕ → ℕ → List ClassState
first_classes pages zero = []
first_classes pages (suc class) = first_classes pages class ++ first_class pages class ∷ []

abbrev pub first : ℕ → Storage
first pages = record { classes = first_classes pages class_count; spare = pages - class_count }

-- nothing was put yet: each class has one page, whose chunks are free, and the others are spare
pub record IsUnused (storage : Storage) : Type 0 where
  pub is : storage ≡ first (storage.spare + class_count)

-- how many pages there may be
abbrev pub most_pages : ℕ
most_pages = 65536

abbrev pub OpenDoes : ℕ → Result Storage SlabsError → Type 0
OpenDoes pages (Ok storage) = (class_count ≤ pages) × (pages ≤ most_pages) × (storage ≡ first pages)
OpenDoes pages (Err TooFewPages) = pages < class_count
OpenDoes pages (Err TooManyPages) = most_pages < pages
OpenDoes pages (Err Memory) = (class_count ≤ pages) × (pages ≤ most_pages)

-- what holds of the classes: there are all of them, each with chunks of its size and room for all spare pages
pub record IsStorage (classes : List ClassState) (spare : ℕ) : Type 0 where
  pub all : length classes ≡ class_count
  pub sized : (class : ℕ) → class < class_count → (slice_index_or classes class no_class).chunk_bytes ≡ chunk_bytes class
  pub cut : (class : ℕ) → class < class_count → (slice_index_or classes class no_class).per_page ≡ chunks_a_page class
  pub room : (class : ℕ) → class < class_count → spare ≤ (slice_index_or classes class no_class).room

-- What callers want of a put and of a free: what becomes of the chunk, and that every other chunk keeps what it holds.
use Rattle.std.proofs.Common.{◌≡◌, ◌≢◌, ℕ, zero, suc, ◌-◌, ◌<◌, ◌==◌, if◌then◌else◌, inl, inr, true, false, List, [], ◌∷◌, ◌++◌, length, replicate, Option, Some, None, IsSome, IfSome, slice_get, slice_set, refl, sym, ap, ◌∙◌, subst, arith}
use Rattle.std.proofs.lemmas.List.{set-set, get_or-set_same, get_or-set_other, get_or_past, length-set}
use Rattle.std.proofs.lemmas.Option.{slice_get_within}
use Rattle.std.proofs.lemmas.Bool.{cases_eq, cases_lt, eq-eqb, eqb-true, false_from_ne_true}
use Rattle.geo_slabs.specs.Chunks.{ClassState}
use Rattle.geo_slabs.specs.Storage.{Storage, IsFull, IsPut, PutDoes, chunks_a_page, chunks_in, class_count, class_in, first, first_classes, held_in, held_of, no_class, so_long, with_chunks, with_held, with_page}
use Rattle.geo_slabs.specs.declared.slabs.Chunk.{Chunk}
use Rattle.geo_slabs.proofs.Held.{slice_get-set_same, slice_get-set_other}
use Rattle.geo_slabs.proofs.Sizes.{first_at}

-- a chunk that is there is one of a class that is there
class_there : (storage : Storage) (class number : ℕ) (cell : Option (List ℕ)) → slice_get (chunks_in storage class) number ≡ Some cell → class < length storage.classes
class_there storage class number cell there = elim (cases_lt class (length storage.classes)) [
  | inl lt ↦ lt
  | inr ge ↦
      let nothing : slice_get (chunks_in storage class) number ≡ None = ap (λ (c : ClassState). slice_get c.chunks number) (get_or_past storage.classes class no_class ge) in
      absurd cc
]

chunks_same : (storage : Storage) (class : ℕ) (chunks : List (Option (List ℕ))) → class < length storage.classes → chunks_in (with_chunks storage class chunks) class ≡ chunks
chunks_same storage class chunks lt = ap (λ (c : ClassState). c.chunks) (get_or-set_same storage.classes class (record (class_in storage class) { chunks = chunks }) no_class lt)

chunks_other : (storage : Storage) (class other : ℕ) (chunks : List (Option (List ℕ))) → other ≢ class → chunks_in (with_chunks storage class chunks) other ≡ chunks_in storage other
chunks_other storage class other chunks ne = ap (λ (c : ClassState). c.chunks) (get_or-set_other storage.classes class other (record (class_in storage class) { chunks = chunks }) no_class ne)

-- two chunks at one place are told apart by their lengths
lengths_differ : (a b : Chunk) → a.class ≡ b.class → a.number ≡ b.number → a ≢ b → a.length ≢ b.length
lengths_differ a b same number ne long = ne (λ i. record { class = same i; number = number i; length = long i })

-- what a chunk of so many bytes finds in its place
pub finds : (long : ℕ) (held : List ℕ) → length held ≡ long → held_of long (Some (Some held)) ≡ Some held
finds long held e = ap (λ b. if b then Some held else None) (eq-eqb (length held) long e)

pub finds_none : (long : ℕ) (held : List ℕ) → length held ≢ long → held_of long (Some (Some held)) ≡ None
finds_none long held ne = ap (λ b. if b then Some held else None) (false_from_ne_true (length held == long) (λ yes. ne (eqb-true (length held) long yes)))

-- a place holds nothing, or a value of so many bytes
abbrev pub IsSoLong : ℕ → Option (List ℕ) → Type 0
IsSoLong long None = Unit {0}
IsSoLong long (Some held) = length held ≡ long

found : (long : ℕ) (cell : Option (List ℕ)) → IsSoLong long cell → held_of long (Some cell) ≡ cell
found long None e = refl
found long (Some held) e = finds long held e

not_found : (long other : ℕ) (cell : Option (List ℕ)) → IsSoLong long cell → other ≢ long → held_of other (Some cell) ≡ None
not_found long other None e ne = refl
not_found long other (Some held) e ne = finds_none other held (λ f. ne (sym f ∙ e))

-- what a chunk holds once it is set
held_same : (storage : Storage) (chunk : Chunk) (cell held : Option (List ℕ)) → slice_get (chunks_in storage chunk.class) chunk.number ≡ Some cell → IsSoLong chunk.length held
    → held_in (with_held storage chunk.class chunk.number held) chunk ≡ held
held_same storage chunk cell held there long =
    ap (λ cs. held_of chunk.length (slice_get cs chunk.number)) (chunks_same storage chunk.class (slice_set (chunks_in storage chunk.class) chunk.number held) (class_there storage chunk.class chunk.number cell there))
    ∙ ap (held_of chunk.length) (slice_get-set_same (chunks_in storage chunk.class) chunk.number held (slice_get_within (chunks_in storage chunk.class) chunk.number cell there))
    ∙ found chunk.length held long

-- and what the others hold: those of another length at its place held nothing, and hold nothing
held_other : (storage : Storage) (was chunk other : Chunk) (cell held : Option (List ℕ)) → slice_get (chunks_in storage chunk.class) chunk.number ≡ Some cell
    → was.class ≡ chunk.class → was.number ≡ chunk.number → IsSoLong was.length cell → IsSoLong chunk.length held → other ≢ was → other ≢ chunk
    → held_in (with_held storage chunk.class chunk.number held) other ≡ held_in storage other
held_other storage was chunk other cell held there same_class same_number long_was long_is ne_was ne =
    let chunks : List (Option (List ℕ)) = slice_set (chunks_in storage chunk.class) chunk.number held in
    elim (cases_eq other.class chunk.class) [
      | inl same ↦
          ap (λ n. held_of other.length (slice_get (chunks_in (with_chunks storage chunk.class chunks) n) other.number)) same
          ∙ ap (λ cs. held_of other.length (slice_get cs other.number)) (chunks_same storage chunk.class chunks (class_there storage chunk.class chunk.number cell there))
          ∙ elim (cases_eq other.number chunk.number) [
            | inl here ↦
                let now : slice_get chunks other.number ≡ Some held = rw here (slice_get-set_same (chunks_in storage chunk.class) chunk.number held (slice_get_within (chunks_in storage chunk.class) chunk.number cell there)) in
                let before : slice_get (chunks_in storage chunk.class) other.number ≡ Some cell = rw here there in
                ap (held_of other.length) now
                ∙ not_found chunk.length other.length held long_is (lengths_differ other chunk same here ne)
                ∙ sym (not_found was.length other.length cell long_was (lengths_differ other was (same ∙ sym same_class) (here ∙ sym same_number) ne_was))
                ∙ sym (ap (held_of other.length) before)
            | inr apart ↦ ap (held_of other.length) (slice_get-set_other (chunks_in storage chunk.class) chunk.number other.number held apart)
          ]
          ∙ ap (λ n. held_of other.length (slice_get (chunks_in storage n) other.number)) (sym same)
      | inr apart ↦ ap (λ cs. held_of other.length (slice_get cs other.number)) (chunks_other storage chunk.class other.class chunks apart)
    ]

cell_nones : (long : ℕ) (cells : List (Option (List ℕ))) (n k : ℕ) → held_of long (slice_get (cells ++ replicate n None) k) ≡ held_of long (slice_get cells k)
cell_nones long [] zero k = refl
cell_nones long [] (suc n) zero = refl
cell_nones long [] (suc n) (suc k) = cell_nones long [] n k
cell_nones long (cell ∷ cells) n zero = refl
cell_nones long (cell ∷ cells) n (suc k) = cell_nones long cells n k

-- a page that is taken changes nothing that is held
page_keeps : (storage : Storage) (class : ℕ) (chunk : Chunk) → class < length storage.classes → held_in (with_page storage class) chunk ≡ held_in storage chunk
page_keeps storage class chunk lt =
    let old : ClassState = class_in storage class in
    let new : ClassState = record old { chunks = old.chunks ++ replicate old.per_page None; room = old.room - 1 } in
    elim (cases_eq chunk.class class) [
      | inl same ↦
          ap (λ n. held_of chunk.length (slice_get (chunks_in (with_page storage class) n) chunk.number)) same
          ∙ ap (λ (c : ClassState). held_of chunk.length (slice_get c.chunks chunk.number)) (get_or-set_same storage.classes class new no_class lt)
          ∙ cell_nones chunk.length old.chunks old.per_page chunk.number
          ∙ ap (λ n. held_of chunk.length (slice_get (chunks_in storage n) chunk.number)) (sym same)
      | inr apart ↦ ap (λ (c : ClassState). held_of chunk.length (slice_get c.chunks chunk.number)) (get_or-set_other storage.classes class chunk.class new no_class apart)
    ]

-- one step of a put: into a chunk that was free
module _ {old new : Storage} {class : ℕ} {bytes : List ℕ} {chunk : Chunk} (put : IsPut old new class bytes chunk) where
  free_there : slice_get (chunks_in old chunk.class) chunk.number ≡ Some None
  free_there = subst (λ c. slice_get (chunks_in old c) chunk.number ≡ Some None) (sym put.class_is) put.was_free

  holds_here : new ≡ with_held old chunk.class chunk.number (Some bytes)
  holds_here = put.holds ∙ ap (λ c. with_held old c chunk.number (Some bytes)) (sym put.class_is)

  step_gives : held_in new chunk ≡ Some bytes
  step_gives = ap (λ s. held_in s chunk) holds_here ∙ held_same old chunk None (Some bytes) free_there (sym put.length_is)

  step_new : held_in old chunk ≡ None
  step_new = ap (held_of chunk.length) free_there

  step_keeps : (other : Chunk) → other ≢ chunk → held_in new other ≡ held_in old other
  step_keeps other ne = ap (λ s. held_in s other) holds_here ∙ held_other old chunk chunk other None (Some bytes) free_there refl refl tt (sym put.length_is) ne ne

page_there : (old : Storage) (class number : ℕ) → slice_get (chunks_in (with_page old class) class) number ≡ Some None → class < length old.classes
page_there old class number there = omega (arith, class_there (with_page old class) class number None there, length-set old.classes class (record (class_in old class) { chunks = chunks_in old class ++ replicate (class_in old class).per_page None; room = (class_in old class).room - 1 }))

-- after a put the chunk holds the bytes
pub put_gives : (old new : Storage) (class : ℕ) (bytes : List ℕ) (chunk : Chunk) → PutDoes old new class bytes (Some chunk) → held_in new chunk ≡ Some bytes
put_gives old new class bytes chunk (inl put) = step_gives put
put_gives old new class bytes chunk (inr (_, _, put)) = step_gives put

-- it is one of the class
pub put_class : (old new : Storage) (class : ℕ) (bytes : List ℕ) (chunk : Chunk) → PutDoes old new class bytes (Some chunk) → chunk.class ≡ class
put_class old new class bytes chunk (inl put) = put.class_is
put_class old new class bytes chunk (inr (_, _, put)) = put.class_is

-- it is not one that was held
pub put_new : (old new : Storage) (class : ℕ) (bytes : List ℕ) (chunk : Chunk) → PutDoes old new class bytes (Some chunk) → held_in old chunk ≡ None
put_new old new class bytes chunk (inl put) = step_new put
put_new old new class bytes chunk (inr (_, _, put)) = sym (page_keeps old class chunk (page_there old class chunk.number put.was_free)) ∙ step_new put

-- after a put every other chunk holds what it held
pub put_keeps : (old new : Storage) (class : ℕ) (bytes : List ℕ) (chunk : Chunk) → PutDoes old new class bytes (Some chunk) → (other : Chunk) → other ≢ chunk → held_in new other ≡ held_in old other
put_keeps old new class bytes chunk (inl put) other ne = step_keeps put other ne
put_keeps old new class bytes chunk (inr (_, _, put)) other ne = step_keeps put other ne ∙ page_keeps old class other (page_there old class chunk.number put.was_free)

-- so a chunk that is held keeps what it holds, whatever a put does
pub put_keeps_held : (old new : Storage) (class : ℕ) (bytes : List ℕ) (result : Option Chunk) → PutDoes old new class bytes result → (other : Chunk) (held : List ℕ) → held_in old other ≡ Some held → held_in new other ≡ Some held
put_keeps_held old new class bytes None does other held is = ap (λ s. held_in s other) does.1 ∙ is
put_keeps_held old new class bytes (Some chunk) does other held is =
    let nothing = put_new old new class bytes chunk does in
    put_keeps old new class bytes chunk does other (λ same. let none : held_in old other ≡ None = ap (held_in old) same ∙ nothing in absurd cc) ∙ is

-- a put into a class that is full gives no chunk
pub full_refuses : (old new : Storage) (class : ℕ) (bytes : List ℕ) (chunk : Chunk) → IsFull old class → PutDoes old new class bytes (Some chunk) → ⊥
full_refuses old new class bytes chunk full (inl put) = full.0 chunk.number put.was_free
full_refuses old new class bytes chunk full (inr (_, spare, _)) = absurd (omega (arith, spare, full.1))

-- what a chunk holds stands at its place, and has its length
held_there : (long : ℕ) (cell : Option (Option (List ℕ))) → IsSome (held_of long cell) → (held : List ℕ) × (cell ≡ Some (Some held)) × (length held ≡ long)
held_there long None h = let no : false ≡ true = h in absurd cc
held_there long (Some None) h = let no : false ≡ true = h in absurd cc
held_there long (Some (Some held)) h = elim (cases_eq (length held) long) [
  | inl same ↦ (held, refl, same)
  | inr other ↦ let no : false ≡ true = subst IsSome (finds_none long held other) h in absurd cc
]

-- a chunk that was freed holds nothing
pub free_empties : (old new : Storage) (chunk : Chunk) → new ≡ with_held old chunk.class chunk.number None → IsSome (held_in old chunk) → held_in new chunk ≡ None
free_empties old new chunk freed h =
    let there = held_there chunk.length (slice_get (chunks_in old chunk.class) chunk.number) h in ap (λ s. held_in s chunk) freed ∙ held_same old chunk (Some there.0) None there.1 tt

-- after a free every other chunk holds what it held
pub free_keeps : (old new : Storage) (chunk : Chunk) → new ≡ with_held old chunk.class chunk.number None → IsSome (held_in old chunk) → (other : Chunk) → other ≢ chunk → held_in new other ≡ held_in old other
free_keeps old new chunk freed h other ne =
    let there = held_there chunk.length (slice_get (chunks_in old chunk.class) chunk.number) h in ap (λ s. held_in s other) freed ∙ held_other old chunk chunk other (Some there.0) None there.1 refl refl there.2 tt ne ne

-- what a chunk held before is all the same
pub held_twice : (storage : Storage) (class number : ℕ) (a b : Option (List ℕ)) → class < length storage.classes → with_held (with_held storage class number a) class number b ≡ with_held storage class number b
held_twice storage class number a b lt =
    let old : ClassState = class_in storage class in
    let once : List (Option (List ℕ)) = slice_set old.chunks number a in
    let here : class_in (with_chunks storage class once) class ≡ record old { chunks = once } = get_or-set_same storage.classes class (record old { chunks = once }) no_class lt in
    ap (λ (c : ClassState). record { classes = slice_set (slice_set storage.classes class (record old { chunks = once })) class (record c { chunks = slice_set c.chunks number b }); spare = storage.spare }) here
    ∙ ap (λ cs. record { classes = slice_set (slice_set storage.classes class (record old { chunks = once })) class (record old { chunks = cs }); spare = storage.spare }) (set-set old.chunks number a b)
    ∙ ap (λ cs. record { classes = cs; spare = storage.spare }) (set-set storage.classes class (record old { chunks = once }) (record old { chunks = slice_set old.chunks number b }))

-- a chunk that is freed is free
pub freed_there : (storage : Storage) (chunk : Chunk) → IsSome (held_in storage chunk) → slice_get (chunks_in (with_held storage chunk.class chunk.number None) chunk.class) chunk.number ≡ Some None
freed_there storage chunk h =
    let there = held_there chunk.length (slice_get (chunks_in storage chunk.class) chunk.number) h in
    ap (λ cs. slice_get cs chunk.number) (chunks_same storage chunk.class (slice_set (chunks_in storage chunk.class) chunk.number None) (class_there storage chunk.class chunk.number (Some there.0) there.1))
    ∙ slice_get-set_same (chunks_in storage chunk.class) chunk.number None (slice_get_within (chunks_in storage chunk.class) chunk.number (Some there.0) there.1)

-- other bytes are put as if the chunk had been freed before
pub replace_puts : (old new : Storage) (class : ℕ) (chunk : Chunk) (bytes : List ℕ) → new ≡ with_held old chunk.class chunk.number (Some bytes) → IsSome (held_in old chunk) → chunk.class ≡ class
    → IsPut (with_held old chunk.class chunk.number None) new class bytes (so_long chunk bytes)
replace_puts old new class chunk bytes is h same =
    let there = held_there chunk.length (slice_get (chunks_in old chunk.class) chunk.number) h in
    record {
      class_is = same;
      length_is = refl;
      was_free = subst (λ k. slice_get (chunks_in (with_held old chunk.class chunk.number None) k) chunk.number ≡ Some None) same (freed_there old chunk h);
      holds = subst (λ k. new ≡ with_held (with_held old chunk.class chunk.number None) k chunk.number (Some bytes)) same
          (is ∙ sym (held_twice old chunk.class chunk.number None (Some bytes) (class_there old chunk.class chunk.number (Some there.0) there.1)));
    }

-- a chunk that holds other bytes: what it holds, and what the others do
pub replace_keeps : (old new : Storage) (chunk : Chunk) (bytes : List ℕ) → new ≡ with_held old chunk.class chunk.number (Some bytes) → IsSome (held_in old chunk)
    → (other : Chunk) → other ≢ chunk → other ≢ so_long chunk bytes → held_in new other ≡ held_in old other
replace_keeps old new chunk bytes is h other ne_was ne =
    let there = held_there chunk.length (slice_get (chunks_in old chunk.class) chunk.number) h in
    ap (λ s. held_in s other) is ∙ held_other old chunk (so_long chunk bytes) other (Some there.0) (Some bytes) there.1 refl refl there.2 refl ne_was ne

pub replace_gives : (old new : Storage) (chunk : Chunk) (bytes : List ℕ) → new ≡ with_held old chunk.class chunk.number (Some bytes) → IsSome (held_in old chunk) → held_in new (so_long chunk bytes) ≡ Some bytes
replace_gives old new chunk bytes is h =
    let there = held_there chunk.length (slice_get (chunks_in old chunk.class) chunk.number) h in ap (λ s. held_in s (so_long chunk bytes)) is ∙ held_same old (so_long chunk bytes) (Some there.0) (Some bytes) there.1 refl

-- a put that gives no chunk, or another, leaves what a chunk holds
pub put_others : (old new : Storage) (class : ℕ) (bytes : List ℕ) (result : Option Chunk) → PutDoes old new class bytes result → (other : Chunk) → IfSome result (λ chunk. other ≢ chunk) → held_in new other ≡ held_in old other
put_others old new class bytes None does other ne = ap (λ s. held_in s other) does.1
put_others old new class bytes (Some chunk) does other ne = put_keeps old new class bytes chunk does other ne

-- a class of which a chunk was freed is not full
pub free_makes_room : (old new : Storage) (chunk : Chunk) (class : ℕ) → new ≡ with_held old chunk.class chunk.number None → IsSome (held_in old chunk) → chunk.class ≡ class → IsFull new class → ⊥
free_makes_room old new chunk class freed h same full =
    let there = held_there chunk.length (slice_get (chunks_in old chunk.class) chunk.number) h in
    let chunks : List (Option (List ℕ)) = slice_set (chunks_in old chunk.class) chunk.number None in
    full.0 chunk.number (
    ap (λ n. slice_get (chunks_in new n) chunk.number) (sym same)
    ∙ ap (λ s. slice_get (chunks_in s chunk.class) chunk.number) freed
    ∙ ap (λ cs. slice_get cs chunk.number) (chunks_same old chunk.class chunks (class_there old chunk.class chunk.number (Some there.0) there.1))
    ∙ slice_get-set_same (chunks_in old chunk.class) chunk.number None (slice_get_within (chunks_in old chunk.class) chunk.number (Some there.0) there.1)
    )

-- a chunk that holds something and one that holds nothing are two
pub held_apart : (storage : Storage) (chunk other : Chunk) (held : List ℕ) → held_in storage chunk ≡ Some held → held_in storage other ≡ None → chunk ≢ other
held_apart storage chunk other held is none same = let both = ap (held_in storage) same in cc

-- at first no chunk holds anything
pub first_holds_nothing : (pages : ℕ) (chunk : Chunk) → held_in (first pages) chunk ≡ None
first_holds_nothing pages chunk = elim (cases_lt chunk.class class_count) [
  | inl lt ↦ ap (λ (c : ClassState). held_of chunk.length (slice_get c.chunks chunk.number)) (first_at pages chunk.class lt) ∙ cell_nones chunk.length [] (chunks_a_page chunk.class) chunk.number
  | inr ge ↦ ap (λ (c : ClassState). held_of chunk.length (slice_get c.chunks chunk.number)) (get_or_past (first_classes pages class_count) chunk.class no_class ge)
]

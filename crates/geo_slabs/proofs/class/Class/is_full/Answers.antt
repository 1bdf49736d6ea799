use Rattle.std.proofs.Common.{◌≡◌, ℕ, ◌*◌, Bool, true, false, not, is_some, length, List, Option, Some, None, slice_get, subst}
use Rattle.geo_slabs.specs.declared.«class».FreeChunks.{FreeChunks}
use Rattle.geo_slabs.specs.Chunks.{ClassState, HasFree, TakeDoes, bytes_of, chunks_from, link, read, with_fresh}
use Rattle.geo_slabs.proofs.Held.{class-linked, class-full, class-ready, class-taken, cell-free, readied}
use Rattle.geo_slabs.proofs.class.Class.is_full.Goals as goal

taken_none : (next : ℕ → ℕ) (many : ℕ) (free : FreeChunks) (taken : Option (ℕ × FreeChunks)) (none : Bool) → TakeDoes next many free taken → is_some taken ≡ not none → none ≡ true
    → TakeDoes next many free None
taken_none next many free None none does is full = does
taken_none next many free (Some t) none does is full = let no : true ≡ not none = is in absurd cc

record Takes (next : ℕ → ℕ) (many : ℕ) (free : FreeChunks) : Type 0 where
  pub number : ℕ
  pub rest : FreeChunks
  pub does : TakeDoes next many free (Some (number, rest))

taken_some : (next : ℕ → ℕ) (many : ℕ) (free : FreeChunks) (taken : Option (ℕ × FreeChunks)) (none : Bool) → TakeDoes next many free taken → is_some taken ≡ not none → none ≡ false
    → Takes next many free
taken_some next many free None none does is some = let no : false ≡ not none = is in absurd cc
taken_some next many free (Some t) none does is some = record { number = t.0; rest = t.1; does = does }

pub take_number-requires-clause-linked : goal.take_number-requires-clause-linked
take_number-requires-clause-linked c = class-linked c.self.inside.pages.items c.self.invariant

pub returns-clause-full : goal.returns-clause-full
returns-clause-full c = λ full k h.
    let all = c.self.inside.pages.items in
    class-full all c.self.invariant
    (taken_none (link c.self.inside.chunk_bytes c.self.inside.per_page (bytes_of all)) (c.self.inside.per_page * length all) c.self.inside.free c.take_number.result c.is_none.result c.take_number.ensures c.is_none.ensures full) k (rw (← c.self.view_is) at h)

pub returns-clause-free : goal.returns-clause-free
returns-clause-free c = λ some.
    let all = c.self.inside.pages.items in
    let size = c.self.inside.chunk_bytes in
    let per = c.self.inside.per_page in
    let os : List (Option ℕ) = c.self.inside.lengths.each in
    let next = link size per (bytes_of all) in
    let t = taken_some next (per * length all) c.self.inside.free c.take_number.result c.is_none.result c.take_number.ensures c.is_none.ensures some in
    let ready = class-ready all c.self.invariant t.rest t.number t.does in
    let taken = class-taken all c.self.invariant t.rest t.number ready in
    subst (λ (s : ClassState). HasFree s.chunks) c.self.view_is (record {
      number = t.number;
      free = subst (λ (l : List (Option ℕ)). slice_get (chunks_from (read size per (bytes_of all)) 0 l) t.number ≡ Some None) ready.same
          (cell-free (read size per (bytes_of all)) 0 (with_fresh (readied os t.number) (per * length all)) t.number taken.free);
    })

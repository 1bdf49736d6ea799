use Rattle.std.proofs.Common.{◌≡◌, ℕ, ◌*◌, ◌≤◌, length, List, Option, Some, None, arith, ap, sym, ◌∙◌, subst}
use Rattle.std.proofs.lemmas.List.{length-set, length-map}
use Rattle.std.proofs.lemmas.Option.{slice_get_within}
use Rattle.geo_slabs.specs.Chunks.{ClassState, ListsFree, bytes_of, read, free_cell, freed_in, link, with_fresh}
use Rattle.geo_slabs.proofs.Held.{place-fits, class-linked, class-ready, class-taken, class-full, readied, taken-page, taken-chunks, reach-after, count_free-set, cell-free, listed-after, fits-after, with_fresh-set, freed-kept, left-apart}
use Rattle.geo_slabs.proofs.class.Class.put.Goals as goal

pub take_number-requires-clause-linked : goal.take_number-requires-clause-linked
take_number-requires-clause-linked c = class-linked c.self.inside.pages.items c.self.invariant

pub returns-in_err-number-clause-full : goal.returns-in_err-number-clause-full
returns-in_err-number-clause-full c =
    rw c.from_residual.ensures (λ k h. class-full c.self.inside.pages.items c.self.invariant c.in_err-number.ensures k (rw (← c.self.view_is) at h))

pub write_in-requires-clause-at : goal.write_in-requires-clause-at
write_in-requires-clause-at c =
    let ready = class-ready c.self.inside.pages.items c.self.invariant c.in_ok-number.free c.in_ok-number.number c.in_ok-number.ensures in
    let taken = class-taken c.self.inside.pages.items c.self.invariant c.in_ok-number.free c.in_ok-number.number ready in
    rw length-map at (taken-page taken)

pub write_in-requires-clause-end : goal.write_in-requires-clause-end
write_in-requires-clause-end c = place-fits c.self.inside.per_page c.self.inside.chunk_bytes c.in_ok-number.number c.self.inside.chunk_bytes c.self.invariant.whole (omega arith)

pub invariant_of-self : goal.invariant_of-self
invariant_of-self c =
    let os : List (Option ℕ) = c.self.inside.lengths.each in
    let i : ℕ = c.in_ok-number.number in
    let n : ℕ = length c.args.bytes.now in
    let rest = c.in_ok-number.free in
    let ready = class-ready c.self.inside.pages.items c.self.invariant rest i c.in_ok-number.ensures in
    let taken = class-taken c.self.inside.pages.items c.self.invariant rest i ready in
    let size_is : c.self.inside.chunk_bytes ≡ c.args.self.now.chunk_bytes = ap (λ (l : ClassState). l.chunk_bytes) c.self.view_is in
    let fits : n ≤ c.self.inside.chunk_bytes = omega (arith, c.requires, size_is) in
    let below = slice_get_within (readied os i) i None ready.free in
    let lengths = c.note.ensures ∙ ready.place (Some n) in
    let same_pages : length (bytes_of c.write_in.new.pages.items) ≡ length (bytes_of c.self.inside.pages.items) = ap length c.write_in.ensures.bytes ∙ length-set (bytes_of c.self.inside.pages.items) _ _ in
    let chain = freed-kept c.self.inside.pages.items c.self.invariant i c.args.bytes.now rest.last rest.freed (taken-page taken) fits (left-apart c.self.inside.pages.items c.self.invariant rest i ready) in
    let listed = listed-after (readied os i) (freed_in (link c.self.inside.chunk_bytes c.self.inside.per_page (bytes_of c.self.inside.pages.items)) rest) i n ready.listed below in
    record {
      whole = c.self.invariant.whole;
      least = c.self.invariant.least;
      used = rw lengths (ready.used ∙ sym (length-set (readied os i) i (Some n)));
      many = rw lengths (omega (arith, length-set (readied os i) i (Some n), ready.within, ap (λ q. c.self.inside.per_page * q) same_pages, ap (λ q. c.self.inside.per_page * q) (length-map c.self.inside.pages.items (λ p. p.items))));
      listed = rw (lengths, c.write_in.ensures.bytes) (subst (ListsFree (Rattle.std.proofs.Math.ListN.set (readied os i) i (Some n))) (sym chain) listed);
      fit = rw lengths (fits-after c.self.inside.chunk_bytes (readied os i) i n ready.fit fits below);
      reach = rw (lengths, c.write_in.ensures.bytes, length-set) (reach-after c.self.inside.chunk_bytes c.self.inside.per_page (bytes_of c.self.inside.pages.items) i c.args.bytes.now (length os) (length (readied os i)) c.self.invariant.reach ready.others (taken-page taken) fits);
      reserved = c.write_in.ensures.reserved;
      counted = rw lengths (omega (arith, count_free-set (readied os i) i (Some n) below, ap free_cell ready.free, ready.counted));
      within = omega (arith, same_pages, c.self.invariant.within);
      pages_room = omega (arith, c.write_in.ensures.capacity, c.self.invariant.pages_room);
      numbered = c.self.invariant.numbered;
    }

pub returns-clause-was_free : goal.returns-clause-was_free
returns-clause-was_free c =
    let ready = class-ready c.self.inside.pages.items c.self.invariant c.in_ok-number.free c.in_ok-number.number c.in_ok-number.ensures in
    let taken = class-taken c.self.inside.pages.items c.self.invariant c.in_ok-number.free c.in_ok-number.number ready in
    rw (← c.self.view_is, ← ready.same) (cell-free (read c.self.inside.chunk_bytes c.self.inside.per_page (bytes_of c.self.inside.pages.items)) 0 (with_fresh (readied c.self.inside.lengths.each c.in_ok-number.number) (c.self.inside.per_page * length c.self.inside.pages.items)) c.in_ok-number.number taken.free)

pub returns-clause-holds : goal.returns-clause-holds
returns-clause-holds c =
    let os : List (Option ℕ) = c.self.inside.lengths.each in
    let i : ℕ = c.in_ok-number.number in
    let n : ℕ = length c.args.bytes.now in
    let ready = class-ready c.self.inside.pages.items c.self.invariant c.in_ok-number.free i c.in_ok-number.ensures in
    let taken = class-taken c.self.inside.pages.items c.self.invariant c.in_ok-number.free i ready in
    let size_is : c.self.inside.chunk_bytes ≡ c.args.self.now.chunk_bytes = ap (λ (l : ClassState). l.chunk_bytes) c.self.view_is in
    let fits : n ≤ c.self.inside.chunk_bytes = omega (arith, c.requires, size_is) in
    let below = slice_get_within (readied os i) i None ready.free in
    let lengths = c.note.ensures ∙ ready.place (Some n) in
    rw (
      ← c.self.view_is,
      c.write_in.ensures.len,
      c.write_in.ensures.bytes,
      lengths,
      with_fresh-set (readied os i) (c.self.inside.per_page * length c.self.inside.pages.items) i (Some n) below,
      taken-chunks taken c.args.bytes.now fits,
      ready.same,
    )

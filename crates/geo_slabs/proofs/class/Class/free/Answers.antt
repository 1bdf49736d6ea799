use Rattle.std.proofs.Common.{◌≡◌, ℕ, ◌*◌, ◌≤◌, List, Option, None, length, arith, ap, sym, ◌∙◌, subst}
use Rattle.std.proofs.Math.ListN.{set}
use Rattle.std.proofs.lemmas.List.{length-set, length-map}
use Rattle.std.proofs.lemmas.Nat.{from_be_bytes-to_be_bytes_4}
use Rattle.std.specs.Int.{w32, from_be_bytes}
use Rattle.geo_slabs.specs.Chunks.{ClassState, ListsFree, bytes_of, free_cell, link, freed_in}
use Rattle.geo_slabs.proofs.Held.{class-held, class-used, class-few, placed-old, place-fits, chunks-freed, count_free-set, count_free-lt, listed-more, fits-drop, reach-after, freed-again}
use Rattle.geo_slabs.proofs.class.Class.free.Goals as goal

pub write_in-requires-clause-at : goal.write_in-requires-clause-at
write_in-requires-clause-at c =
    let h = class-held c.self.inside.pages.items c.self.invariant c.args.number (rw (ap (λ (l : ClassState). l.chunks) c.self.view_is) c.requires) in
    rw length-map at h.page

pub write_in-requires-clause-end : goal.write_in-requires-clause-end
write_in-requires-clause-end c = place-fits c.self.inside.per_page c.self.inside.chunk_bytes c.args.number c.self.inside.chunk_bytes c.self.invariant.whole (omega arith)

pub overflow_add-self : goal.overflow_add-self
overflow_add-self c =
    let os : List (Option ℕ) = c.self.inside.lengths.each in
    let h = class-held c.self.inside.pages.items c.self.invariant c.args.number (rw (ap (λ (l : ClassState). l.chunks) c.self.view_is) c.requires) in
    omega (arith, count_free-lt os c.args.number h.len h.is, c.self.invariant.counted, class-used c.self.inside.pages.items c.self.invariant, class-few c.self.inside.pages.items c.self.invariant)

pub invariant_of-self : goal.invariant_of-self
invariant_of-self c =
    let os : List (Option ℕ) = c.self.inside.lengths.each in
    let i : ℕ = c.args.number in
    let free = c.self.inside.free in
    let before : List ℕ = c.to_be_bytes-before.result in
    let four : length before ≡ 4 = ap length c.to_be_bytes-before.ensures in
    let h = class-held c.self.inside.pages.items c.self.invariant i (rw (ap (λ (l : ClassState). l.chunks) c.self.view_is) c.requires) in
    let fits : length before ≤ c.self.inside.chunk_bytes = omega (arith, four, c.self.invariant.least) in
    let lengths = c.note.ensures ∙ placed-old os i None h.below in
    let same_pages : length (bytes_of c.write_in.new.pages.items) ≡ length (bytes_of c.self.inside.pages.items) = ap length c.write_in.ensures.bytes ∙ length-set (bytes_of c.self.inside.pages.items) _ _ in
    let back : from_be_bytes w32 before ≡ free.last = ap (from_be_bytes w32) c.to_be_bytes-before.ensures ∙ from_be_bytes-to_be_bytes_4 free.last (omega (arith, c.self.ranges)) in
    let chain = freed-again c.self.inside.pages.items c.self.invariant i h.len before h.is h.page fits four back in
    let listed = listed-more os (freed_in (link c.self.inside.chunk_bytes c.self.inside.per_page (bytes_of c.self.inside.pages.items)) free) i h.len c.self.invariant.listed h.is in
    record {
      whole = c.self.invariant.whole;
      least = c.self.invariant.least;
      used = rw lengths (c.self.invariant.used ∙ sym (length-set os i None));
      many = rw lengths (omega (arith, length-set os i None, c.self.invariant.many, ap (λ q. c.self.inside.per_page * q) same_pages));
      listed = rw (lengths, c.write_in.ensures.bytes) (subst (ListsFree (set os i None)) (sym chain) listed);
      fit = rw lengths (fits-drop c.self.inside.chunk_bytes os i c.self.invariant.fit h.below);
      reach = rw (lengths, c.write_in.ensures.bytes, length-set) (reach-after c.self.inside.chunk_bytes c.self.inside.per_page (bytes_of c.self.inside.pages.items) i before (length os) (length os) c.self.invariant.reach (λ k below ne. below) h.page fits);
      reserved = c.write_in.ensures.reserved;
      counted = rw lengths (omega (arith, count_free-set os i None h.below, ap free_cell h.is, c.self.invariant.counted));
      within = omega (arith, same_pages, c.self.invariant.within);
      pages_room = omega (arith, c.write_in.ensures.capacity, c.self.invariant.pages_room);
      numbered = c.self.invariant.numbered;
    }

pub returns : goal.returns
returns c =
    let os : List (Option ℕ) = c.self.inside.lengths.each in
    let i : ℕ = c.args.number in
    let before : List ℕ = c.to_be_bytes-before.result in
    let four : length before ≡ 4 = ap length c.to_be_bytes-before.ensures in
    let h = class-held c.self.inside.pages.items c.self.invariant i (rw (ap (λ (l : ClassState). l.chunks) c.self.view_is) c.requires) in
    let fits : length before ≤ c.self.inside.chunk_bytes = omega (arith, four, c.self.invariant.least) in
    let lengths = c.note.ensures ∙ placed-old os i None h.below in
    rw (
      ← c.self.view_is,
      c.write_in.ensures.len,
      c.write_in.ensures.bytes,
      lengths,
      chunks-freed h before fits (class-used c.self.inside.pages.items c.self.invariant) c.self.invariant.fit c.self.invariant.reach,
    )

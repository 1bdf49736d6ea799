use Rattle.std.proofs.Common.{◌≡◌, ℕ, ◌*◌, ◌≤◌, length, List, Option, Some, arith, ap, ◌∙◌, sym, subst}
use Rattle.std.proofs.lemmas.List.{length-set, length-map}
use Rattle.geo_slabs.specs.Chunks.{ClassState, ListsFree, bytes_of, freed_in, link}
use Rattle.std.proofs.Math.ListN.{set}
use Rattle.geo_slabs.proofs.Held.{place-fits, placed-old, class-held, class-used, reach-after, fits-after, freed-kept, freed-apart, listed-replaced, counted-replaced, chunks-replaced}
use Rattle.geo_slabs.proofs.class.Class.replace.Goals as goal

pub write_in-requires-clause-at : goal.write_in-requires-clause-at
write_in-requires-clause-at c =
    let h = class-held c.self.inside.pages.items c.self.invariant c.args.number (rw (ap (λ (l : ClassState). l.chunks) c.self.view_is) c.requires.held) in
    rw length-map at h.page

pub write_in-requires-clause-within : goal.write_in-requires-clause-within
write_in-requires-clause-within c =
    let size_is : c.self.inside.chunk_bytes ≡ c.args.self.now.chunk_bytes = ap (λ (l : ClassState). l.chunk_bytes) c.self.view_is in
    omega (arith, c.requires.fits, size_is)

pub write_in-requires-clause-end : goal.write_in-requires-clause-end
write_in-requires-clause-end c = place-fits c.self.inside.per_page c.self.inside.chunk_bytes c.args.number c.self.inside.chunk_bytes c.self.invariant.whole (omega arith)

pub invariant_of-self : goal.invariant_of-self
invariant_of-self c =
    let os : List (Option ℕ) = c.self.inside.lengths.each in
    let i : ℕ = c.args.number in
    let n : ℕ = length c.args.bytes.now in
    let free = c.self.inside.free in
    let h = class-held c.self.inside.pages.items c.self.invariant i (rw (ap (λ (l : ClassState). l.chunks) c.self.view_is) c.requires.held) in
    let size_is : c.self.inside.chunk_bytes ≡ c.args.self.now.chunk_bytes = ap (λ (l : ClassState). l.chunk_bytes) c.self.view_is in
    let fits : n ≤ c.self.inside.chunk_bytes = omega (arith, c.requires.fits, size_is) in
    let lengths = c.note.ensures ∙ placed-old os i (Some n) h.below in
    let same_pages : length (bytes_of c.write_in.new.pages.items) ≡ length (bytes_of c.self.inside.pages.items) = ap length c.write_in.ensures.bytes ∙ length-set (bytes_of c.self.inside.pages.items) _ _ in
    let chain = freed-kept c.self.inside.pages.items c.self.invariant i c.args.bytes.now free.last free.freed h.page fits (freed-apart c.self.inside.pages.items c.self.invariant i h.len h.is) in
    let listed = listed-replaced h (freed_in (link c.self.inside.chunk_bytes c.self.inside.per_page (bytes_of c.self.inside.pages.items)) free) n c.self.invariant.listed in
    record {
      whole = c.self.invariant.whole;
      least = c.self.invariant.least;
      used = rw lengths (c.self.invariant.used ∙ sym (length-set os i (Some n)));
      many = rw lengths (omega (arith, length-set os i (Some n), c.self.invariant.many, ap (λ q. c.self.inside.per_page * q) same_pages));
      listed = rw (lengths, c.write_in.ensures.bytes) (subst (ListsFree (set os i (Some n))) (sym chain) listed);
      fit = rw lengths (fits-after c.self.inside.chunk_bytes os i n c.self.invariant.fit fits h.below);
      reach = rw (lengths, c.write_in.ensures.bytes, length-set) (reach-after c.self.inside.chunk_bytes c.self.inside.per_page (bytes_of c.self.inside.pages.items) i c.args.bytes.now (length os) (length os) c.self.invariant.reach (λ k below ne. below) h.page fits);
      reserved = c.write_in.ensures.reserved;
      counted = rw lengths (c.self.invariant.counted ∙ sym (counted-replaced h n));
      within = omega (arith, same_pages, c.self.invariant.within);
      pages_room = omega (arith, c.write_in.ensures.capacity, c.self.invariant.pages_room);
      numbered = c.self.invariant.numbered;
    }

pub returns-clause-holds : goal.returns-clause-holds
returns-clause-holds c =
    let os : List (Option ℕ) = c.self.inside.lengths.each in
    let i : ℕ = c.args.number in
    let h = class-held c.self.inside.pages.items c.self.invariant i (rw (ap (λ (l : ClassState). l.chunks) c.self.view_is) c.requires.held) in
    let size_is : c.self.inside.chunk_bytes ≡ c.args.self.now.chunk_bytes = ap (λ (l : ClassState). l.chunk_bytes) c.self.view_is in
    let fits : length c.args.bytes.now ≤ c.self.inside.chunk_bytes = omega (arith, c.requires.fits, size_is) in
    let lengths = c.note.ensures ∙ placed-old os i (Some (length c.args.bytes.now)) h.below in
    rw (
      ← c.self.view_is,
      c.write_in.ensures.len,
      c.write_in.ensures.bytes,
      lengths,
      chunks-replaced h c.args.bytes.now fits (class-used c.self.inside.pages.items c.self.invariant) c.self.invariant.fit c.self.invariant.reach,
    )

use Rattle.std.proofs.Common.{ℕ, ◌≡◌, ◌+◌, ◌-◌, ◌*◌, ◌≤◌, ◌++◌, ◌∷◌, [], IsOk, length, length-append, arith, ap, ◌∙◌, Vec, vec_capacity}
use Rattle.std.proofs.Math.Nat.{mul-le-mul_left}
use Rattle.std.proofs.lemmas.List.{map-append, length-map}
use Rattle.std.proofs.lemmas.List.Elements.{All-append, All-cons, All-nil}
use Rattle.std.specs.declared.alloc.Global.{Global}
use Rattle.geo_slabs.specs.Chunks.{ClassState, bytes_of, with_fresh}
use Rattle.geo_slabs.proofs.Held.{class-used, class-many, reach-page, listed-page, chunks-page, with_fresh-more, length-with_fresh}
use Rattle.geo_slabs.proofs.class.Class.add_page.Goals as goal

pub invariant_of-self : goal.invariant_of-self
invariant_of-self c =
    let room_is : c.self.inside.most_pages - length c.self.inside.pages.items ≡ c.args.self.now.room = ap (λ (l : ClassState). l.room) c.self.view_is in
    let pushed : IsOk c.push-pushed.result = c.push-pushed.ensures.succeeds (omega (arith, c.self.invariant.pages_room, c.self.inside.pages.ok.0, room_is, c.requires.room)) in
    let pages : c.push-pushed.new.self.items ≡ c.self.inside.pages.items ++ c.args.page ∷ [] = rw pushed at c.push-pushed.ensures.items in
    let bytes : bytes_of c.push-pushed.new.self.items ≡ bytes_of c.self.inside.pages.items ++ c.args.page.items ∷ [] = rw (pages, map-append) in
    let more : length (bytes_of c.push-pushed.new.self.items) ≡ length (bytes_of c.self.inside.pages.items) + 1 = ap length bytes ∙ length-append (bytes_of c.self.inside.pages.items) (c.args.page.items ∷ []) in
    let grown : c.self.inside.per_page * length (bytes_of c.self.inside.pages.items) ≤ c.self.inside.per_page * length (bytes_of c.push-pushed.new.self.items) = mul-le-mul_left c.self.inside.per_page (omega (arith, more)) in
    record {
      whole = c.self.invariant.whole;
      least = c.self.invariant.least;
      used = c.self.invariant.used;
      many = omega (arith, c.self.invariant.many, grown);
      listed = rw bytes (listed-page c.self.inside.pages.items c.args.page.items c.self.invariant);
      fit = c.self.invariant.fit;
      reach = rw bytes (reach-page c.self.inside.chunk_bytes c.self.inside.per_page (bytes_of c.self.inside.pages.items) c.args.page.items (length c.self.inside.lengths.each) c.self.invariant.whole c.self.invariant.many c.self.invariant.reach);
      reserved = rw pages (All-append (λ (page : Vec ℕ Global). 1048576 ≤ vec_capacity page) c.self.inside.pages.items (c.args.page ∷ []) c.self.invariant.reserved (All-cons (λ (page : Vec ℕ Global). 1048576 ≤ vec_capacity page) c.args.page [] c.requires.reserved (All-nil (λ (page : Vec ℕ Global). 1048576 ≤ vec_capacity page))));
      counted = c.self.invariant.counted;
      within = omega (arith, more, length-map c.self.inside.pages.items (λ p. p.items), room_is, c.requires.room);
      pages_room = omega (arith, c.self.invariant.pages_room, c.push-pushed.ensures.capacity);
      numbered = c.self.invariant.numbered;
    }

pub returns : goal.returns
returns c =
    let size = c.self.inside.chunk_bytes in
    let per = c.self.inside.per_page in
    let os = c.self.inside.lengths.each in
    let old = c.self.inside.pages.items in
    let room_is : c.self.inside.most_pages - length old ≡ c.args.self.now.room = ap (λ (l : ClassState). l.room) c.self.view_is in
    let pushed : IsOk c.push-pushed.result = c.push-pushed.ensures.succeeds (omega (arith, c.self.invariant.pages_room, c.self.inside.pages.ok.0, room_is, c.requires.room)) in
    let pages : c.push-pushed.new.self.items ≡ old ++ c.args.page ∷ [] = rw pushed at c.push-pushed.ensures.items in
    let bytes : bytes_of c.push-pushed.new.self.items ≡ bytes_of old ++ c.args.page.items ∷ [] = rw (pages, map-append) in
    let more : length c.push-pushed.new.self.items ≡ length old + 1 = rw pages (length-append old (c.args.page ∷ [])) in
    let left : c.self.inside.most_pages - length c.push-pushed.new.self.items ≡ (c.self.inside.most_pages - length old) - 1 = omega (arith, more) in
    let many : per * length c.push-pushed.new.self.items ≡ per * length old + per = ap (λ n. per * n) more ∙ omega arith in
    rw (
      ← c.self.view_is,
      bytes,
      left,
      many,
      with_fresh-more os (per * length old) per (class-used c.self.inside.pages.items c.self.invariant),
      chunks-page size per (bytes_of old) c.args.page.items (with_fresh os (per * length old)) c.self.invariant.whole (length-with_fresh os (per * length old) (class-used c.self.inside.pages.items c.self.invariant) ∙ class-many c.self.inside.pages.items c.self.invariant),
    )

use Rattle.std.proofs.Common.{List, ℕ, ◌++◌, take, Option, sym, ap, subst, ◌∙◌, arith}
use Rattle.std.specs.Io.KnownBytes.{Consumes}
use Rattle.geo_link.specs.Streams.{Incoming}
use Rattle.geo_link.proofs.Arrivals.{front_of}
use Rattle.geo_link.proofs.incoming.Incoming.read.Goals as goal

pub returns-clause-reads : goal.returns-clause-reads
returns-clause-reads g c =
    let r = g.I.Read.remaining c.self.inside.reader.inner in
    let s = g.I.Read.remaining c.read.new.self.inner in
    let piece = c.split_at.result.0.now in
    let given : Consumes r s piece = subst (λ (x : List ℕ). Consumes r s x) (sym (c.split_at.ensures.front ∙ ap (λ (x : List ℕ). take c.in-Ok.count x) c.deref.ensures.value ∙ front_of c.in-Ok.count c.self.inside.piece.len c.read.new.buf _ c.in-Ok.ensures.bound.0 (omega (arith, c.as_mut_slice.ensures.len, c.read.auto.buf)))) c.in-Ok.ensures.bytes.0 in
    record {
      more = piece;
      waiting = c.extend_reserved.ensures.items ∙ ap (λ (x : List ℕ). x ++ piece) (c.reserve.ensures.items ∙ ap (λ (v : Incoming). v.waiting) c.self.view_is);
      unread = subst (λ (x : Option (List ℕ)). Consumes x s piece) (ap (λ (v : Incoming). v.unread) c.self.view_is) given;
    }

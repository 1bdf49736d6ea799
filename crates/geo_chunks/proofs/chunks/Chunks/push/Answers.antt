use Rattle.std.proofs.Common.{◌≡◌, ◌∙◌, ◌++◌, ◌∷◌, [], Some, sym, ap, subst, Vec}
use Rattle.std.specs.declared.alloc.Global.{Global}
use Rattle.geo_chunks.specs.Chunking.{Chunked, IsSpare}
use Rattle.geo_chunks.proofs.Places.{one_more}
use Rattle.geo_chunks.proofs.chunks.Chunks.push.Goals as goal

pub returns-clause-items : goal.returns-clause-items
returns-clause-items g c =
    let spare : c.self.inside.spare ≡ Some c.in-Some.next = sym c.take.ensures.value ∙ c.in-Some.is in
    let empty = (subst (IsSpare c.self.inside.full) spare c.self.invariant.next).0 in
    let more = one_more c.self.inside.full.items c.push_reserved-3.new.self.items c.self.inside.last c.replace.new.dest c.args.element (c.push_reserved-3.ensures.items ∙ ap (λ (v : Vec g.row.T.Denot Global). c.self.inside.full.items ++ v ∷ []) c.replace.ensures.value) (ap (λ (v : Vec g.row.T.Denot Global). v.items) c.replace.ensures.after ∙ c.push_reserved-2.ensures.items ∙ ap (λ l. l ++ c.args.element ∷ []) empty) in
    more ∙ ap (λ (m : Chunked g.row.T.Denot). m.items ++ c.args.element ∷ []) c.self.view_is

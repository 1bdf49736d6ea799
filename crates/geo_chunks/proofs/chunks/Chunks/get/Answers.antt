use Rattle.std.proofs.Common.{◌∙◌, ◌/◌, ◌%◌, ◌*◌, ◌-◌, length, slice_get, refl, sym, ap, arith}
use Rattle.std.proofs.lemmas.Option.{slice_get_read}
use Rattle.geo_chunks.specs.Chunking.{Chunked}
use Rattle.geo_chunks.proofs.Places.{in_full, behind_full, looked}
use Rattle.geo_chunks.proofs.chunks.Chunks.get.Goals as goal

pub returns-then-chunk-len : goal.returns-then-chunk-len
returns-then-chunk-len g c =
    let found = slice_get_read c.self.inside.full.items (length c.self.inside.full.items) (c.args.place / 256) c.index.result.now refl (omega (arith, c.if-chunk-len.true, c.len.ensures)) c.index.ensures in
    looked c.deref.result.now (c.args.place % 256) c.get.result c.get.ensures.lookup.0 c.get.ensures.lookup.1 ∙ ap (λ l. slice_get l (c.args.place % 256)) c.deref.ensures.value
    ∙ sym (in_full c.self.inside.full.items c.self.inside.last.items c.args.place c.index.result.now c.self.invariant.even found)
    ∙ ap (λ (m : Chunked g.row.T.Denot). slice_get m.items c.args.place) c.self.view_is

pub returns : goal.returns
returns g c =
    looked c.deref-2.result.now (c.args.place - c.len-2.result * 256) c.get-2.result c.get-2.ensures.lookup.0 c.get-2.ensures.lookup.1 ∙ ap (λ l. slice_get l (c.args.place - c.len-2.result * 256)) c.deref-2.ensures.value
    ∙ ap (λ n. slice_get c.self.inside.last.items (c.args.place - n * 256)) (c.len-2.ensures ∙ c.self.inside.full.ok.0)
    ∙ sym (behind_full c.self.inside.full.items c.self.inside.last.items c.args.place c.self.invariant.even (omega (arith, c.if-chunk-len.false, c.len.ensures)))
    ∙ ap (λ (m : Chunked g.row.T.Denot). slice_get m.items c.args.place) c.self.view_is

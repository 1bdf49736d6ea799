use Rattle.std.proofs.Common.{◌-◌, sym, ap, ◌∙◌, refl}
use Rattle.geo_stamp.specs.Vectors.{vector_joined}
use Rattle.geo_delta.specs.Changes.{Ring, known_after}
use Rattle.geo_delta.proofs.Spans.{known_back}
use Rattle.geo_delta.proofs.buffer.Buffer.first_news.Goals as goal

pub returns-then-covers-clause-covered : goal.returns-then-covers-clause-covered
returns-then-covers-clause-covered c =
    let first = c.len-kept.result - c.loop-passed.passed in
    let known = ap (λ (r : Ring). known_after first r.reach r.changes) (sym c.self.view_is)
    ∙ known_back c.len-kept.result c.loop-passed.passed c.self.inside.reach c.self.inside.ring.items c.in-Some.change.now c.loop-passed-test.true (sym c.in-Some.ensures) in
    ap (vector_joined c.args.base.now) known ∙ c.if-covers.ensures.0 refl

use Rattle.std.proofs.Common.{sym, ap, ◌∙◌}
use Rattle.geo_frame.specs.Reading.{size_in}
use Rattle.geo_link.specs.Streams.{Incoming}
use Rattle.geo_link.proofs.Coming.{at_err, first_stops, then_stops, head_stops, size_stays}
use Rattle.geo_link.proofs.incoming.Incoming.collect.Goals as goal

pub returns-in_err-fill-clause-err : goal.returns-in_err-fill-clause-err
returns-in_err-fill-clause-err g c =
    let error = c.in_err-fill.field-0.0 in
    at_err _ error _ c.from_residual.ensures.1 (first_stops c.args.self.now c.fill.new.self error c.in_err-fill.ensures.err)

pub returns-in-Err-clause-err : goal.returns-in-Err-clause-err
returns-in-Err-clause-err g c =
    let here = c.as_slice.ensures ∙ ap (λ (v : Incoming). v.waiting) c.self.view_is in
    (head_stops c.fill.new.self c.in-Err.fault c.in_ok-fill.ensures.filled (ap size_in (sym here) ∙ c.in-Err.ensures), c.in_ok-fill.ensures.works)

pub returns-in_err-fill-2-clause-err : goal.returns-in_err-fill-2-clause-err
returns-in_err-fill-2-clause-err g c =
    let here = c.as_slice.ensures ∙ ap (λ (v : Incoming). v.waiting) c.self.view_is in
    let error = c.in_err-fill-2.field-0.0 in
    at_err _ error _ c.from_residual-in_err-fill-2.ensures.1
    (then_stops c.in-Ok.size c.args.self.now c.fill.new.self c.fill-2.new.self error (ap size_in (sym here) ∙ c.in-Ok.ensures) c.fill-2.ensures.reads c.in_ok-fill.ensures.works c.in_err-fill-2.ensures.err)

pub returns-clause-size : goal.returns-clause-size
returns-clause-size g c =
    let here = c.as_slice.ensures ∙ ap (λ (v : Incoming). v.waiting) c.self.view_is in
    size_stays c.fill.new.self c.fill-2.new.self c.in-Ok.size (ap size_in (sym here) ∙ c.in-Ok.ensures) c.fill-2.ensures.reads

use Rattle.std.proofs.lemmas.Result.{err_from_is_err_and}
use Rattle.geo_frame.proofs.Frames.{no_memory}
use Rattle.geo_frame.proofs.reading.read.Goals as goal

pub returns-in_err-fields-clause-memory : goal.returns-in_err-fields-clause-memory
returns-in_err-fields-clause-memory c =
    let p = err_from_is_err_and c.from_residual.result c.from_residual.ensures.1 in
    rw (p.1, p.2) (λ m. absurd (no_memory c.args.bytes.now c.in_err-fields.field-0.0 c.in_err-fields.ensures.fields m))

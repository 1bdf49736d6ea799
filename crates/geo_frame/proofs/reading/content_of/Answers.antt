use Rattle.std.proofs.lemmas.Result.{err_from_is_err_and}
use Rattle.geo_frame.proofs.Memory.{clean_byte, not_memory}
use Rattle.geo_frame.proofs.reading.content_of.Goals as goal

pub returns-in_err-kind-clause-memory : goal.returns-in_err-kind-clause-memory
returns-in_err-kind-clause-memory c =
    let p = err_from_is_err_and c.from_residual.result c.from_residual.ensures.1 in
    rw (p.1, p.2) (λ m. absurd (not_memory _ c.in_err-kind.field-0.0 (clean_byte _) c.in_err-kind.ensures m))

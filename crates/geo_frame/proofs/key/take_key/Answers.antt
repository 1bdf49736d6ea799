use Rattle.std.proofs.lemmas.Result.{err_from_is_err_and}
use Rattle.geo_frame.proofs.Memory.{clean_key, not_memory}
use Rattle.geo_frame.proofs.key.take_key.Goals as goal

pub returns-in_err-text-clause-memory : goal.returns-in_err-text-clause-memory
returns-in_err-text-clause-memory c =
    let p = err_from_is_err_and c.from_residual.result c.from_residual.ensures.1 in
    rw (p.1, p.2) (λ m. absurd (not_memory _ c.in_err-text.field-0.0 (clean_key _ _) c.in_err-text.ensures.read m))

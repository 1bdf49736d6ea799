use Rattle.std.proofs.lemmas.Result.{err_from_is_err_and}
use Rattle.geo_frame.proofs.Memory.{clean_floor, clean_retired, clean_sites, clean_vector, not_memory}
use Rattle.geo_frame.proofs.reading.parcel_of.Goals as goal

pub returns-in_err-route-clause-memory : goal.returns-in_err-route-clause-memory
returns-in_err-route-clause-memory c =
    let p = err_from_is_err_and c.from_residual.result c.from_residual.ensures.1 in
    rw (p.1, p.2) (λ m. absurd (not_memory _ c.in_err-route.field-0.0 (clean_sites _) c.in_err-route.ensures.read m))

pub returns-in_err-base-clause-memory : goal.returns-in_err-base-clause-memory
returns-in_err-base-clause-memory c =
    let p = err_from_is_err_and c.from_residual-in_err-base.result c.from_residual-in_err-base.ensures.1 in
    rw (p.1, p.2) (λ m. absurd (not_memory _ c.in_err-base.field-0.0 (clean_vector _ _) c.in_err-base.ensures m))

pub returns-in_err-upto-clause-memory : goal.returns-in_err-upto-clause-memory
returns-in_err-upto-clause-memory c =
    let p = err_from_is_err_and c.from_residual-in_err-upto.result c.from_residual-in_err-upto.ensures.1 in
    rw (p.1, p.2) (λ m. absurd (not_memory _ c.in_err-upto.field-0.0 (clean_vector _ _) c.in_err-upto.ensures m))

pub returns-in_err-floor-clause-memory : goal.returns-in_err-floor-clause-memory
returns-in_err-floor-clause-memory c =
    let p = err_from_is_err_and c.from_residual-in_err-floor.result c.from_residual-in_err-floor.ensures.1 in
    rw (p.1, p.2) (λ m. absurd (not_memory _ c.in_err-floor.field-0.0 (clean_floor _ _) c.in_err-floor.ensures m))

pub returns-in_err-retired-clause-memory : goal.returns-in_err-retired-clause-memory
returns-in_err-retired-clause-memory c =
    let p = err_from_is_err_and c.from_residual-in_err-retired.result c.from_residual-in_err-retired.ensures.1 in
    rw (p.1, p.2) (λ m. absurd (not_memory _ c.in_err-retired.field-0.0 (clean_retired _ _ _) c.in_err-retired.ensures m))

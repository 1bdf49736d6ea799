use Rattle.std.proofs.Common.{refl}
use Rattle.geo_audit.proofs.Playing.{match_bool}
use Rattle.geo_audit.proofs.Stilling.{stays_step, flushes_step}
use Rattle.geo_audit.proofs.play.Play.stays.Goals as goal

pub returns-in-Ok : goal.returns-in-Ok
returns-in-Ok c = match_bool c.is_still.result c.is_still.ensures
    (λ e. stays_step c.args.self.now _ c.args.site c.args.now c.in-Ok.trace e refl c.in-Ok.ensures.as_many c.in-Ok.ensures.does c.in-Ok.ensures.tables)
    (λ d. flushes_step c.args.self.now c.step.new.self c.args.site c.args.now c.in-Ok.trace d c.in-Ok.ensures.does)

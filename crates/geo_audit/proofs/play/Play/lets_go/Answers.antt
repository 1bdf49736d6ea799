use Rattle.std.proofs.Common.{Option, List, ℕ, Some, sym, ap, subst, ◌∙◌}
use Rattle.std.specs.Prelude.{MatchBool}
use Rattle.geo_world.specs.declared.event.Event.TheVariants as at
use Rattle.geo_audit.specs.Runs.{lets_go, gone}
use Rattle.geo_audit.specs.Misses.{Unheld}
use Rattle.geo_audit.specs.Playing.{Always, Leads, Happens, ComesOf}
use Rattle.geo_audit.proofs.Playing.{match_bool}
use Rattle.geo_audit.proofs.Stilling.{gone_step, unheld_step}
use Rattle.geo_audit.proofs.play.Play.lets_go.Goals as goal

pub returns-in-Some-2 : goal.returns-in-Some-2
returns-in-Some-2 c =
    let old = c.args.self.now in
    let new = c.carry_out.new.self in
    let comes : ComesOf old new (at.Evict c.args.site c.in_ok-key.key) c.in-Some-2.trace = subst (Happens old new (at.Evict c.args.site c.in_ok-key.key)) c.in-Some-2.is c.in_ok-trace.ensures in
    subst (λ (v : Option (List ℕ)). MatchBool c.is_gone.result (Leads old new (lets_go c.args.site v) (gone v)) (Always old (λ w all. Unheld w c.args.site v))) (ap Some c.in_ok-key.ensures ∙ sym c.in-Some.is)
    (match_bool c.is_gone.result c.is_gone.ensures (λ e. gone_step old new c.args.site c.in_ok-key.key c.in-Some-2.trace e comes.leads) (λ d. unheld_step old new c.args.site c.in_ok-key.key c.in-Some-2.trace d comes.leads))

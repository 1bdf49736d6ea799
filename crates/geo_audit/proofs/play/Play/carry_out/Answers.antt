use Rattle.std.proofs.Common.{refl}
use Rattle.geo_audit.proofs.Playing.{leads_step}
use Rattle.geo_audit.proofs.play.Play.carry_out.Goals as goal

pub returns : goal.returns
returns c = record {
  leads = leads_step c.args.self.now _ c.args.event c.in-Ok.trace c.in_ok-push.ensures.items c.in-Ok.ensures.as_many c.in-Ok.ensures.does c.in-Ok.ensures.tables;
  said = c.if-not-is_said.ensures refl;
}

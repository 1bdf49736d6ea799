use Rattle.std.proofs.Common.{refl, subst, Err}
use Rattle.geo_world.specs.Agreement.{StepDoes}
use Rattle.geo_cluster.proofs.Happening.{steps_on, comes_for}
use Rattle.geo_cluster.proofs.script.cluster.Cluster.step.Goals as goal

pub returns-in-Ok-clause-does : goal.returns-in-Ok-clause-does
returns-in-Ok-clause-does c = steps_on c.args.self.now _ c.args.event.now c.in-Ok.trace refl refl c.in-Ok.ensures.as_many c.in-Ok.ensures.does c.in-Ok.ensures.tables c.in-Ok.ensures.alone

pub returns-in-Err-Memory-clause-wants : goal.returns-in-Err-Memory-clause-wants
returns-in-Err-Memory-clause-wants c = comes_for c.args.self.now c.args.event.now (subst (λ e. StepDoes c.args.self.now.world c.step.new.self c.args.event.now 0 (Err e)) c.in-Err-Memory.field-0-is c.in-Err-Memory.ensures.does).0

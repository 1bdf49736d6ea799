use Rattle.std.proofs.Common.{Bool, cond, List, [], refl, ap, sym, ◌∙◌}
use Rattle.geo_history.specs.declared.step.Step.{Step}
use Rattle.geo_history.proofs.kept.Kept.history.Goals as goal

pub returns-clause-is : goal.returns-clause-is
returns-clause-is c = λ on. record {
  opening = refl;
  steps = c.into_steps.ensures ∙ ap (λ (b : Bool). cond {A = List Step} b c.args.self.parts.steps.items []) on;
  who = sym c.args.self.who;
  kept = c.args.self.kept;
}

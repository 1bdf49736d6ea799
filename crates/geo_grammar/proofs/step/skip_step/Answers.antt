use Rattle.std.proofs.Common.{sym, ◌∙◌}
use Rattle.geo_grammar.proofs.Transitions.{step_skip, step_skip_open, step_skip_end}
use Rattle.geo_grammar.proofs.step.skip_step.Goals as goal

pub returns-then-piece-left-clause-leads : goal.returns-then-piece-left-clause-leads
returns-then-piece-left-clause-leads c = step_skip c.args.left c.args.fault c.args.piece.now c.if-piece-left.true

pub returns-in_default-clause-leads : goal.returns-in_default-clause-leads
returns-in_default-clause-leads c = step_skip_open c.args.left c.args.fault c.args.piece.now c.if-piece-left.false (rw c.split_at.ensures.back at c.in_default.ensures.end)

pub returns-clause-leads : goal.returns-clause-leads
returns-clause-leads c = step_skip_end c.args.left c.args.fault c.args.piece.now c.in-Some.field-0-0.now c.in-Some.rest.now c.new.result.items c.fault.result c.if-piece-left.false c.in-Some.ensures.end.0 (sym c.split_at.ensures.back ∙ c.in-Some.ensures.end.1) c.new.ensures.items c.fault.ensures

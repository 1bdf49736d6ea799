use Rattle.std.proofs.Common.{rules, take, ◌-◌, ap, arith, length}
use Rattle.geo_station.specs.declared.fits.Ending.TheVariants.{Whole, Tail, More, Other}
use Rattle.geo_station.proofs.Endings.{step_early, step_apart, step_further, step_other, none_whole, none_more}
use Rattle.geo_station.proofs.fits.ending_of.Goals as goal

pub returns-in_default-split_last : goal.returns-in_default-split_last
returns-in_default-split_last c = c.loop-step.invariant.1 Tail (step_early c.args.seat (take c.loop-step.count c.args.steps.now.items) (take (c.loop-step.count - 1) c.args.steps.now.items) c.in-Some.step.now c.loop-step.left.now c.in-Some.ensures.some.1 (search rules) c.in_default-split_last.ensures.cases)

pub returns-then-not-is_step_of : goal.returns-then-not-is_step_of
returns-then-not-is_step_of c = c.loop-step.invariant.1 Other (step_apart c.args.seat (take c.loop-step.count c.args.steps.now.items) (take (c.loop-step.count - 1) c.args.steps.now.items) c.in-Some.step.now c.loop-step.left.now c.in-Some-split_last.others.now c.in-Some-split_last.call.now c.in-Some.ensures.some.1 (search rules) c.in-Some-split_last.ensures.cases.0 c.if-not-is_step_of.ensures)

pub loop-step-preserved-else-not-is_step_of : goal.loop-step-preserved-else-not-is_step_of
loop-step-preserved-else-not-is_step_of c = (omega (arith, c.loop-step.invariant.0), λ e ends. c.loop-step.invariant.1 e (step_further e c.args.seat (take c.loop-step.count c.args.steps.now.items) (take (c.loop-step.count - 1) c.args.steps.now.items) c.in-Some.step.now c.loop-step.left.now c.in-Some-split_last.others.now c.in-Some-split_last.call.now c.in-Some.ensures.some.1 (search rules) c.in-Some-split_last.ensures.cases.0 c.if-not-is_step_of.ensures ends))

pub loop-step-preserved : goal.loop-step-preserved
loop-step-preserved c = (omega (arith, c.loop-step.invariant.0), λ e ends. c.loop-step.invariant.1 e (step_other e c.args.seat (take c.loop-step.count c.args.steps.now.items) (take (c.loop-step.count - 1) c.args.steps.now.items) c.in-Some.step.now c.loop-step.left.now c.in-Some.ensures.some.1 (search rules) ends))

pub returns-then-is_empty : goal.returns-then-is_empty
returns-then-is_empty c = c.loop-step.invariant.1 Whole (none_whole c.args.seat (take c.loop-step.count c.args.steps.now.items) c.loop-step.left.now (ap (λ n. length (take n c.args.steps.now.items)) c.in_default.ensures.none) (search rules))

pub returns-else-is_empty : goal.returns-else-is_empty
returns-else-is_empty c = c.loop-step.invariant.1 More (none_more c.args.seat (take c.loop-step.count c.args.steps.now.items) c.loop-step.left.now (ap (λ n. length (take n c.args.steps.now.items)) c.in_default.ensures.none) (search rules))

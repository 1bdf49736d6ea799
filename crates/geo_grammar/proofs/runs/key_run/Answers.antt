use Rattle.std.proofs.Common.{arith}
use Rattle.geo_records.specs.Keys.{is_key_byte}
use Rattle.geo_grammar.proofs.KeyRuns.{run_ends, run_fills}
use Rattle.geo_grammar.proofs.runs.key_run.Goals as goal

pub returns-then-run-lt-LANES-clause-run : goal.returns-then-run-lt-LANES-clause-run
returns-then-run-lt-LANES-clause-run c =
    let run = run_ends is_key_byte c.args.text.now c.loop-at.at 16 c.run_of_lanes-run.result (omega arith) c.run_of_lanes-run.ensures.run c.if-run-lt-LANES.true in
    omega (arith, run, c.loop-at.invariant.far)

pub loop-at-preserved : goal.loop-at-preserved
loop-at-preserved c =
    let run = run_fills is_key_byte c.args.text.now c.loop-at.at 16 c.run_of_lanes-run.result (omega arith) c.run_of_lanes-run.ensures.run (omega arith) in
    record { low = omega arith; far = omega (arith, run, c.loop-at.invariant.far) }

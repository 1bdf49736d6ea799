use Rattle.std.proofs.Common.{arith}
use Rattle.std.proofs.lemmas.Simd.{length-chunk}
use Rattle.std.proofs.lemmas.List.Sums.{prefix_len-le-length}
use Rattle.geo_records.specs.Keys.{is_key_byte}
use lib.Lanes.{chunk}
use Rattle.geo_grammar.proofs.KeyRuns.{both_runs}
use Rattle.geo_grammar.proofs.runs.run_of_lanes.Goals as goal

pub returns-clause-run : goal.returns-clause-run
returns-clause-run c =
    let bytes = chunk c.args.at 16 c.args.text.now in
    omega (arith, both_runs bytes, c.min.ensures, c.run_above_space.ensures, c.run_without_delete.ensures)

pub returns-clause-bound : goal.returns-clause-bound
returns-clause-bound c =
    let bytes = chunk c.args.at 16 c.args.text.now in
    omega (arith, both_runs bytes, c.min.ensures, c.run_above_space.ensures, c.run_without_delete.ensures, prefix_len-le-length is_key_byte bytes, length-chunk c.args.at 16 c.args.text.now c.requires)

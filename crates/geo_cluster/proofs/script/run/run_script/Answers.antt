use Rattle.geo_cluster.proofs.Playing.{at_err, run_cut, run_ends, run_performs, run_blames, once_begun}
use Rattle.std.proofs.Common.{sym, subst, inr, IfSome}
use Rattle.geo_cluster.specs.Lines.{lines_of}
use Rattle.geo_cluster.specs.Runs.{Ends}
use Rattle.geo_cluster.specs.declared.script.fault.ScriptFault.{ScriptFault}
use Rattle.geo_cluster.proofs.script.run.run_script.Goals as goal

pub returns-in_err-flush-clause-err : goal.returns-in_err-flush-clause-err
returns-in_err-flush-clause-err g c =
    let all = c.read_all-outcome.ensures in
    let u = g.W.Write.contents c.args.writer.now.inner in
    let v = g.W.Write.contents c.read_all-outcome.new.writer.inner in
    let w = g.W.Write.contents c.flush.new.writer.inner in
    let r = g.R.Read.remaining c.args.reader.now.inner in
    let fault = c.in_err-flush.field-0.0 in
    let err = c.in_err-flush.ensures.err in
    at_err _ fault _ c.from_residual-in_err-flush.ensures.1
    (inr (subst (λ (f : ScriptFault). IfSome r (λ input. Ends f (lines_of input) u w)) (sym err.0)
    (run_cut c.read_all-outcome.result c.in_ok-run.run' c.read_all-outcome.new.self r u v w err.1.0 c.in_ok-run.ensures all.ok all.err err.1.1)))

pub returns-clause-ok : goal.returns-clause-ok
returns-clause-ok g c =
    let u = g.W.Write.contents c.args.writer.now.inner in
    let v = g.W.Write.contents c.read_all-outcome.new.writer.inner in
    let w = g.W.Write.contents c.flush.new.writer.inner in
    run_performs c.read_all-outcome.result c.in_ok-run.run' c.read_all-outcome.new.self (g.R.Read.remaining c.args.reader.now.inner) u v w c.in_ok-run.ensures c.read_all-outcome.ensures.ok c.in_ok-flush.ensures.ok

pub returns-clause-err : goal.returns-clause-err
returns-clause-err g c =
    let all = c.read_all-outcome.ensures in
    let u = g.W.Write.contents c.args.writer.now.inner in
    let v = g.W.Write.contents c.read_all-outcome.new.writer.inner in
    let w = g.W.Write.contents c.flush.new.writer.inner in
    let r = g.R.Read.remaining c.args.reader.now.inner in
    once_begun c.read_all-outcome.result _ _ (run_ends c.read_all-outcome.result c.in_ok-run.run' c.read_all-outcome.new.self r u v w c.in_ok-run.ensures all.err c.in_ok-flush.ensures.ok)

pub returns-clause-failed : goal.returns-clause-failed
returns-clause-failed g c =
    run_blames c.read_all-outcome.result (g.R.Read.remaining c.args.reader.now.inner) c.read_all-outcome.new.reader.failed c.read_all-outcome.new.writer.failed c.flush.new.writer.failed
    c.flush.ensures.stays c.read_all-outcome.ensures.failed

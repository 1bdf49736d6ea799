use Rattle.std.proofs.lemmas.Result.{err_from_is_err_and}
use Rattle.geo_frame.proofs.Loops.{vector_goes_on, vector_ends, vector_done}
use Rattle.geo_frame.proofs.vector.take_vector.Goals as goal

pub returns-in_err-time : goal.returns-in_err-time
returns-in_err-time c =
    let p = err_from_is_err_and c.from_residual.result c.from_residual.ensures.1 in
    rw (p.1, p.2) (vector_ends c.args.sites c.loop-before.before c.loop-before.vector c.loop-before.bytes.left.now c.in_err-time.field-0.0 _ c.loop-before-test.true c.in_err-time.ensures.read c.loop-before.invariant)

pub loop-before-preserved : goal.loop-before-preserved
loop-before-preserved c =
    vector_goes_on c.args.sites c.loop-before.before c.loop-before.vector c.raise.new.self c.loop-before.bytes.left.now c.take_time.new.self.left.now c.in_ok-time.time _ c.loop-before-test.true c.in_ok-time.ensures.read c.raise.ensures c.loop-before.invariant

pub returns : goal.returns
returns c = vector_done c.args.sites c.loop-before.before c.loop-before.vector c.loop-before.bytes.left.now _ c.loop-before-test.false c.loop-before.invariant

use Rattle.geo_frame.specs.Reading.{vector_at}
use Rattle.geo_frame.proofs.Loops.{VectorSoFar}
use Rattle.geo_frame.proofs.vector.take_vector.Given as goal

abbrev pub invariant-loop-before : goal.invariant-loop-before
invariant-loop-before l = VectorSoFar l.sites l.before l.vector l.bytes.left.now (vector_at l.sites l.fn.bytes.left.now)

use Rattle.std.proofs.Common.{◌≡◌, false, length}
use Rattle.geo_link.proofs.Arrivals.{WritesTo}
use Rattle.geo_link.proofs.stream.write_whole.Given as goal

abbrev pub invariant-loop-rest : goal.invariant-loop-rest
invariant-loop-rest g l = record {
  writes : WritesTo l.fn.bytes l.rest (g.O.Write.contents l.fn.writer.inner) (g.O.Write.contents l.writer.inner);
  works : l.fn.writer.failed ≡ false → l.writer.failed ≡ false;
}

abbrev pub decreases-loop-rest : goal.decreases-loop-rest
decreases-loop-rest g l = length l.rest

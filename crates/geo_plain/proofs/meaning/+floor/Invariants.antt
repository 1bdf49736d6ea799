use Rattle.std.proofs.Common.{length}
use Rattle.geo_plain.proofs.meaning.+floor.Given as goal

abbrev pub decreases-floor : goal.decreases-floor
decreases-floor l = length l.ops.now

use Rattle.std.proofs.Common.{length}
use Rattle.geo_plain.proofs.meaning.+newest_expiry.Given as goal

abbrev pub decreases-newest_expiry : goal.decreases-newest_expiry
decreases-newest_expiry l = length l.ops.now

use Rattle.std.proofs.Common.{length}
use Rattle.geo_plain.proofs.meaning.+newest_body.Given as goal

abbrev pub decreases-newest_body : goal.decreases-newest_body
decreases-newest_body l = length l.ops.now

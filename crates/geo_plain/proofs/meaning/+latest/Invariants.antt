use Rattle.std.proofs.Common.{length}
use Rattle.geo_plain.proofs.meaning.+latest.Given as goal

abbrev pub decreases-latest : goal.decreases-latest
decreases-latest l = length l.ops.now

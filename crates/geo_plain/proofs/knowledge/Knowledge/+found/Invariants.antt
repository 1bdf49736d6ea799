use Rattle.std.proofs.Common.{length}
use Rattle.geo_plain.proofs.knowledge.Knowledge.+found.Given as goal

abbrev pub decreases-found : goal.decreases-found
decreases-found l = length l.keys.now

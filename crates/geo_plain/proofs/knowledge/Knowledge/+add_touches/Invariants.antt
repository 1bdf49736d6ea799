use Rattle.std.proofs.Common.{length}
use Rattle.geo_plain.proofs.knowledge.Knowledge.+add_touches.Given as goal

abbrev pub decreases-add_touches : goal.decreases-add_touches
decreases-add_touches l = length l.keys.now

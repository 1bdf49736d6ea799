use Rattle.std.proofs.Common.{length}
use Rattle.geo_plain.proofs.knowledge.+held_after_all.Given as goal

abbrev pub decreases-held_after_all : goal.decreases-held_after_all
decreases-held_after_all l = length l.changes.now

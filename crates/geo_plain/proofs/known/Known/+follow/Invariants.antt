use Rattle.std.proofs.Common.{length}
use Rattle.geo_plain.proofs.known.Known.+follow.Given as goal

abbrev pub decreases-follow : goal.decreases-follow
decreases-follow l = length l.events.now

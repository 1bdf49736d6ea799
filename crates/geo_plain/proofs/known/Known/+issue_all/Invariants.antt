use Rattle.std.proofs.Common.{length}
use Rattle.geo_plain.proofs.known.Known.+issue_all.Given as goal

abbrev pub decreases-issue_all : goal.decreases-issue_all
decreases-issue_all l = length l.acts.now

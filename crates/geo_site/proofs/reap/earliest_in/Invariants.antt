use Rattle.std.proofs.Common.{◌≤◌, take}
use Rattle.std.specs.List.{All}
use Rattle.geo_site.specs.Sites.{EndFrom}
use Rattle.geo_site.proofs.reap.earliest_in.Given as goal

abbrev pub invariant-loop-rec : goal.invariant-loop-rec
invariant-loop-rec l = (l.earliest ≤ l.least) × All (EndFrom l.earliest) (take l.rec-index l.records)

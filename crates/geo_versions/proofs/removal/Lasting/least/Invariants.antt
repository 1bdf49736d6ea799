use Rattle.std.proofs.Common.{◌≤◌, take}
use Rattle.std.specs.List.{All}
use Rattle.geo_versions.specs.Records.{rec_means, lasting_of}
use Rattle.geo_versions.proofs.removal.Lasting.least.Given as goal

abbrev pub invariant-loop-rec : goal.invariant-loop-rec
invariant-loop-rec l = (l.least ≤ l.most) × All (λ e. l.least ≤ lasting_of l.self.floor (rec_means e.1)) (take l.rec-index l.records)

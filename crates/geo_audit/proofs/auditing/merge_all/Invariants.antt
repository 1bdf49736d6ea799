use Rattle.geo_audit.specs.Merging.{IsMerging, left_of}
use Rattle.geo_audit.proofs.auditing.merge_all.Given as goal

abbrev pub invariant-loop-at : goal.invariant-loop-at
invariant-loop-at l = IsMerging l.histories l.merge

abbrev pub decreases-loop-at : goal.decreases-loop-at
decreases-loop-at l = left_of l.histories l.merge.counts.items

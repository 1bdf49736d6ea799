use Rattle.geo_audit.specs.Merging.{reach}
use Rattle.geo_audit.proofs.Links.{Seeks}
use Rattle.geo_audit.proofs.sent.Sent.find.Given as goal

-- it was not found so far
abbrev pub invariant-loop-next : goal.invariant-loop-next
invariant-loop-next l = Seeks l.histories l.self.places.items l.parcel l.next

abbrev pub decreases-loop-next : goal.decreases-loop-next
decreases-loop-next l = reach l.next

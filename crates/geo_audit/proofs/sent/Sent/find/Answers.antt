use Rattle.std.specs.HashMap.{get}
use Rattle.geo_audit.specs.Merging.{same_mark}
use Rattle.geo_audit.proofs.Links.{seeks_on}
use Rattle.geo_audit.proofs.sent.Sent.find.Goals as goal

pub loop-next-preserved : goal.loop-next-preserved
loop-next-preserved c = seeks_on c.args.histories.now c.args.self.now.places.items (λ mark. get same_mark c.args.self.now.last mark) c.args.parcel.now c.loop-next.next c.in-Some.number c.index-place.result.now c.requires c.loop-next.invariant c.in-Some.is c.index-place.ensures c.if-is_made_at.ensures

use Rattle.std.proofs.Common.{◌≡◌, ◌∙◌, subst, ap, Some, slice_get}
use Rattle.geo_maps.proofs.Told.{has_more}
use Rattle.geo_maps.proofs.coming.Coming.has_all.Goals as goal

pub loop-place-preserved : goal.loop-place-preserved
loop-place-preserved c =
    let order = c.args.self.now.order.items in
    let came = c.args.self.now.came.items in
    let index = c.in-Some.index.now in
    let stands = c.in-Some-standing.ensures in
    has_more order came c.loop-place.place index c.loop-place.invariant (subst (λ p. slice_get came p ≡ Some index) c.if-stands-place.false stands.1) (stands.0 ∙ ap Some c.if-stands-place.false)

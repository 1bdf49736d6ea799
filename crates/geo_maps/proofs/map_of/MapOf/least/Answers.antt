use Rattle.std.proofs.Common.{◌≤◌, IfSome, subst, arith}
use Rattle.geo_maps.specs.Maps.{get}
use Rattle.geo_maps.proofs.Entries.{each_found}
use Rattle.geo_maps.proofs.map_of.MapOf.least.Goals as goal

pub returns : goal.returns
returns g c = λ q.
    let below = λ (v : g.row.L.Denot). c.loop-i.least ≤ g.M.Measure.measured c.args.measure.now v in
    let eq = g.K.PartialEq.eq in
    subst (λ m. IfSome (get eq m q) below) c.self.view_is (each_found below _ c.loop-i.i (omega arith) c.loop-i.invariant (eq q))

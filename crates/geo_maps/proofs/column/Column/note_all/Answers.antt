use Rattle.std.proofs.Common.{◌≤◌, IfSome, subst, sym, arith}
use Rattle.geo_maps.specs.Maps.{get, EachOf}
use Rattle.geo_maps.proofs.Entries.{each_found}
use Rattle.geo_maps.proofs.column.Column.note_all.Goals as goal

pub returns-clause-least : goal.returns-clause-least
returns-clause-least g c = λ q.
    let least = c.loop-place.least in
    let below = λ (v : g.row.L.Denot). least ≤ g.N.Measure.measured c.count.new.self.other v in
    let eq = g.K.PartialEq.eq in
    let noted = subst (λ n. EachOf (λ k v. least ≤ g.N.Measure.measured n v) c.map.inside.entries.entries c.loop-place.place)
    (sym c.count.ensures.measures.1) c.loop-place.invariant.least in
    subst (λ m. IfSome (get eq m q) below) c.map.view_is (each_found below _ c.loop-place.place (omega arith) noted (eq q))

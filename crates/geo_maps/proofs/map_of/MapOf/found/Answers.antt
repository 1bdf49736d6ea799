use Rattle.std.proofs.Common.{◌∙◌, arith, sym, ap, false}
use Rattle.geo_maps.specs.Maps.{meaning_at}
use Rattle.geo_maps.proofs.Entries.{none_passes}
use Rattle.geo_maps.proofs.map_of.MapOf.found.Goals as goal

pub returns : goal.returns
returns g c = λ q.
    let passing = g.T.Test.passing c.args.test.now in
    let eq = g.K.PartialEq.eq in
    ap (λ m. meaning_at false passing eq m q) (sym c.self.view_is) ∙ none_passes passing _ c.loop-i.i (omega arith) c.loop-i.invariant (eq q)

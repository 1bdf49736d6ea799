use Rattle.std.proofs.Common.{◌∙◌, ap}
use Rattle.geo_maps.specs.Maps.{missing}
use Rattle.geo_maps.proofs.map_of.MapOf.settle.Goals as goal

pub returns-clause-as_many : goal.returns-clause-as_many
returns-clause-as_many g c = λ mine. c.loop-place.invariant.as_many mine ∙ ap (λ m. missing g.K.PartialEq.eq mine m.entries) c.self.view_is

pub loop-place-preserved : goal.loop-place-preserved
loop-place-preserved g c =
    let was = c.loop-place.invariant in
    let one = c.swap_places.ensures in
    record {
      same = λ q. one.same q ∙ was.same q;
      as_many = λ mine. one.as_many mine ∙ was.as_many mine;
      count = one.count ∙ was.count;
      none = was.none;
      none_other = was.none_other;
      measure = was.measure;
      other = was.other;
    }

use Rattle.std.proofs.Common.{◌≡◌, subst, MatchOption, is_some, true, false}
use Rattle.geo_maps.specs.Maps.{get, StandsAt}
use Rattle.geo_maps.proofs.Columns.{stands_where_found}
use Rattle.geo_maps.proofs.map_of.MapOf.place_near.Goals as goal

pub returns-in_default : goal.returns-in_default
returns-in_default g c =
    let eq = g.K.PartialEq.eq in
    let key = c.args.key.now in
    subst (λ m. MatchOption c.get_index_of.result (is_some (get eq m key) ≡ false) (λ found. StandsAt eq m.entries found key × (is_some (get eq m key) ≡ true))) c.self.view_is
    (stands_where_found (eq key) c.self.inside.entries.entries c.get_index_of.result c.get_index_of.ensures.index c.get_index_of.ensures.found)

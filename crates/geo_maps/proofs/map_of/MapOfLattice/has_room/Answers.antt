use Rattle.std.proofs.Common.{arith, ap, subst}
use Rattle.std.proofs.lemmas.Bool.{leb-true, le-leb}
use Rattle.geo_maps.specs.Maps.{get, RoomFor}
use Rattle.geo_maps.proofs.Joining.{room_everywhere}
use Rattle.geo_maps.proofs.map_of.MapOfLattice.has_room.Goals as goal

pub returns : goal.returns
returns g c =
    let eq = g.K.PartialEq.eq in
    let seen = ap (λ m. m.entries) c.other.view_is in
    let spare = ap (λ m. m.spare) c.self.view_is in (
      λ t. record {
        keys = let h = leb-true _ _ t in omega (arith, c.capacity.ensures, c.len.ensures.len, c.count_missing.ensures, spare, h);
        values = λ q. subst (λ es. RoomFor g.L.Lattice.HasRoom (get eq c.args.self.now q) (Rattle.std.specs.Map.lookup (eq q) es)) seen
            (room_everywhere g.L.Lattice.HasRoom eq g.met.K.Eq.laws _ _ c.loop-i.i (omega arith) c.loop-i.invariant q);
      },
      λ r. le-leb _ _ (omega (arith, c.capacity.ensures, c.len.ensures.len, c.count_missing.ensures, spare, r.keys)),
    )

use Rattle.std.proofs.Common.{◌∙◌, ap}
use Rattle.geo_maps.specs.Maps.{all_joined}
use Rattle.geo_maps.proofs.Listed.{all_joined_append, one_joined}
use Rattle.geo_maps.proofs.Missing.{place_for_last, room_for_others}
use Rattle.geo_maps.proofs.map_of.MapOf.join_list_beside.Goals as goal

pub join_one_beside-place-requires-clause-room : goal.join_one_beside-place-requires-clause-room
join_one_beside-place-requires-clause-room g c = place_for_last g.K.PartialEq.eq _ _ _ _ _ _ c.in-Some.ensures.items c.loop-key.invariant.keys

pub loop-key-preserved : goal.loop-key-preserved
loop-key-preserved g c =
    let m = g.met.L.Lattice in
    let j = g.L.Lattice.joined in
    let z = g.L.Lattice.least in
    let mean = λ (v : g.row.L.Denot). g.L.Lattice.meaning (g.C.Change.changed c.args.by.now v) in
    let eq = g.K.PartialEq.eq in
    let k = c.in-Some.key in
    let v = c.in-Some.value in
    let one = c.join_one_beside-place.ensures in
    let items = c.in-Some.ensures.items in
    record {
      total = λ q. one_joined z mean j m.associative m.commutative m.least_joined eq (eq q k) (eq k q) (g.met.K.Eq.laws.symm k q) _ _ _ _ (mean v) (g.L.Lattice.meaning c.change.new.value) (ap g.L.Lattice.meaning c.change.ensures) (one.joined q)
          (ap (λ xs. all_joined z mean j eq xs q) items ∙ all_joined_append z mean j m.associative m.commutative m.least_joined eq _ k v q)
          ∙ c.loop-key.invariant.total q;
      keys = room_for_others eq _ _ _ _ k v _ _ items c.loop-key.invariant.keys one.kept one.room;
      column = one.column;
      other = one.other;
      measure = one.measures.0 ∙ c.loop-key.invariant.measure;
      measured = one.measures.1 ∙ c.loop-key.invariant.measured;
    }

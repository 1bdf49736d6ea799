use Rattle.std.proofs.Common.{◌∙◌, arith, refl, sym, ap}
use Rattle.geo_maps.specs.Maps.{get, meaning_or}
use Rattle.geo_maps.proofs.Joining.{covered_everywhere, shown_means}
use Rattle.geo_maps.proofs.map_of.MapOf.covers_shown.Goals as goal

pub returns : goal.returns
returns g c =
    let z = g.L.Lattice.least in
    let at = meaning_or z g.L.Lattice.meaning in
    let eq = g.K.PartialEq.eq in
    let show = g.S.Show.shown c.args.show.now in
    let right = λ (a : g.L.Lattice.Meaning). g.met.L.Lattice.commutative a z ∙ g.met.L.Lattice.least_joined a in (
      λ _ q.
          let mine = at (get eq c.args.self.now q) in
          ap (g.L.Lattice.joined mine) (sym (shown_means z g.L.Lattice.meaning show (get eq c.args.other.now q)))
          ∙ ap (λ m. g.L.Lattice.joined mine (meaning_or z (λ (v : g.row.L.Denot). at (show v)) (get eq m q))) (sym c.other.view_is)
          ∙ covered_everywhere z g.L.Lattice.meaning (λ (v : g.row.L.Denot). at (show v)) g.L.Lattice.joined right eq g.met.K.Eq.laws _ _ c.loop-i.i (omega arith) c.loop-i.invariant q,
      λ _. refl,
    )

use Rattle.std.proofs.Common.{◌≡◌, ◌∙◌, arith, refl, sym, ap, true≢false, subst}
use Rattle.std.specs.Map.{lookup}
use Rattle.geo_maps.specs.Maps.{get, meaning_or}
use Rattle.geo_maps.proofs.Joining.{covered_everywhere}
use Rattle.geo_maps.proofs.map_of.MapOfLattice.covers.Goals as goal

pub returns : goal.returns
returns g c =
    let right = λ (a : g.L.Lattice.Meaning). g.met.L.Lattice.commutative a g.L.Lattice.least ∙ g.met.L.Lattice.least_joined a in
    let at = meaning_or g.L.Lattice.least g.L.Lattice.meaning in
    let eq = g.K.PartialEq.eq in
    let seen = ap (λ m. m.entries) c.other.view_is in (
      λ _. λ i q. subst (λ es. g.L.Lattice.joined (at (get eq c.args.self.now q)) (at (lookup (eq q) es)) ≡ at (get eq c.args.self.now q)) seen
          (covered_everywhere g.L.Lattice.least g.L.Lattice.meaning g.L.Lattice.meaning g.L.Lattice.joined right eq g.met.K.Eq.laws _ _ c.loop-i.i (omega arith) c.loop-i.invariant q) i,
      λ _. refl,
    )

pub returns-then-not-covers_one : goal.returns-then-not-covers_one
returns-then-not-covers_one g c =
    let at = meaning_or g.L.Lattice.least g.L.Lattice.meaning in
    let eq = g.K.PartialEq.eq in
    let mine = at (get eq c.args.self.now c.in-Some.key.now) in
    let value = ap (λ m. get eq m c.in-Some.key.now) (sym c.other.view_is) ∙ c.in-Some.ensures.value in
    let wrong = c.if-not-covers_one.ensures in (
      λ h. absurd (true≢false (sym h)),
      λ h. let e = ap (λ f. f c.in-Some.key.now) h in
          let e2 = subst (λ o. g.L.Lattice.joined mine (at o) ≡ mine) value e in wrong.1 e2,
    )

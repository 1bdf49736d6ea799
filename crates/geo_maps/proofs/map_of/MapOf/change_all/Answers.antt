use Rattle.std.proofs.Common.{rules, ◌∙◌, ap}
use Rattle.geo_maps.specs.Maps.{get, meaning_or}
use Rattle.geo_maps.proofs.Changed.{changed_at, left_filled}
use Rattle.geo_maps.proofs.map_of.MapOf.change_all.Goals as goal

pub invariant_of-self : goal.invariant_of-self
invariant_of-self g c =
    left_filled g.L.Lattice.least g.L.Lattice.meaning (g.C.Change.changed c.args.by.now) g.K.PartialEq.eq g.met.K.Eq.laws _ _ (λ k v b w f call. (search rules, search rules, search rules)) _ _ c.retain.ensures.filtered

pub returns-clause-changed : goal.returns-clause-changed
returns-clause-changed g c = λ q. changed_at g.L.Lattice.least g.L.Lattice.meaning (g.C.Change.changed c.args.by.now) g.K.PartialEq.eq g.met.K.Eq.laws _ _ (λ k v b w f call. (search rules, search rules, search rules)) _ _ c.len-count.ensures.unique c.retain.ensures.filtered q
    ∙ ap (λ m. meaning_or g.L.Lattice.least (λ v. g.L.Lattice.meaning (g.C.Change.changed c.args.by.now v)) (get g.K.PartialEq.eq m q)) c.self.view_is

use Rattle.std.proofs.Common.{◌≡◌, ◌∙◌, sym, ap, is_some}
use Rattle.geo_maps.proofs.Entries.{found_written}
use Rattle.geo_maps.proofs.Joining.{joined_least}
use Rattle.geo_maps.proofs.map_of.MapOf.join_one.Goals as goal

pub invariant_of-self : goal.invariant_of-self
invariant_of-self g c =
    let m = g.met.L.Lattice in
    let z = g.L.Lattice.least in
    let mean = g.L.Lattice.meaning in
    let value = c.in-Some.ensures.value in
    let holds = c.get_mut.follows.holds c.join.new.self in
    let up = holds.3 (sym (ap is_some value)) in
    found_written (λ v. mean v ≡ z → ⊥) g.K.PartialEq.eq c.self.inside.entries.entries _ (g.K.PartialEq.eq c.args.key) c.join.new.self c.self.invariant up.0
    (λ h. c.self.invariant c.args.key c.in-Some.mine.now (sym value) (joined_least z g.L.Lattice.joined m.associative m.commutative m.idempotent m.least_joined (mean c.in-Some.mine.now) (mean c.args.value) (sym c.join.ensures ∙ h)))

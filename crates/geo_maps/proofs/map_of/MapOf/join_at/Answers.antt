use Rattle.std.proofs.Common.{◌≡◌, ◌∙◌, sym, ap, is_some, true≢false}
use Rattle.geo_maps.specs.Maps.{get}
use Rattle.geo_maps.proofs.Entries.{found_written}
use Rattle.geo_maps.proofs.Joining.{joined_least}
use Rattle.geo_maps.proofs.map_of.MapOf.join_at.Goals.{in-Some, in_default}
use Rattle.geo_maps.proofs.map_of.MapOf.join_at.Goals as goal

pub invariant_of-self : goal.invariant_of-self
invariant_of-self g c =
    let m = g.met.L.Lattice in
    let z = g.L.Lattice.least in
    let mean = g.L.Lattice.meaning in
    elim c.match-get_mut.branch [
      | in-Some w ↦
          let value = w.in-Some.ensures.value in
          let holds = c.get_mut.follows.holds w.join.new.self in
          let up = holds.3 (sym (ap is_some value)) in
          rw w.self-inside-is (found_written (λ v. mean v ≡ z → ⊥) g.K.PartialEq.eq c.self.inside.entries.entries _ (g.K.PartialEq.eq c.args.key.now) w.join.new.self c.self.invariant up.0
          (λ h. c.self.invariant c.args.key.now w.in-Some.mine.now (sym value) (joined_least z g.L.Lattice.joined m.associative m.commutative m.idempotent m.least_joined (mean w.in-Some.mine.now) (mean c.args.value) (sym w.join.ensures ∙ h))))
      | in_default w ↦ absurd (true≢false (sym c.requires ∙ ap (λ m. is_some (get g.K.PartialEq.eq m c.args.key.now)) (sym c.self.view_is) ∙ ap is_some (sym w.in_default.ensures.value)))
    ]

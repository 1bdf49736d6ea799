use Rattle.std.proofs.Common.{refl, sym, ap, ◌∙◌, subst, true≢false, ◌≤◌}
use Rattle.std.specs.HashMap.Eq.{lookup_congr}
use Rattle.std.specs.Map.{lookup}
use Rattle.geo_maps.specs.Maps.{get, meaning_or, RoomFor}
use Rattle.geo_maps.proofs.Entries.{last_found, nothing_found}
use Rattle.geo_maps.proofs.Joining.{joined_at, room_at}
use Rattle.geo_maps.proofs.Missing.{place_for_last, room_for_others}
use Rattle.geo_maps.proofs.map_of.MapOfLattice.join.Goals as goal

pub loop-key-init : goal.loop-key-init
loop-key-init g c =
    let eq = g.K.PartialEq.eq in
    let seen = ap (λ m. m.entries) (sym c.other.view_is) in
    record {
      total = λ q. refl;
      keys = subst (λ es. Rattle.geo_maps.specs.Maps.missing eq c.args.self.now.entries es ≤ c.args.self.now.spare) seen c.requires.keys;
      values = λ q. subst (λ es. RoomFor g.L.Lattice.HasRoom (get eq c.args.self.now q) (lookup (eq q) es)) seen (c.requires.values q);
    }

pub join_one-requires-clause-value : goal.join_one-requires-clause-value
join_one-requires-clause-value g c =
    let eq = g.K.PartialEq.eq in
    let k = c.in-Some.key in
    let e = c.in-Some.ensures in
    let here = ap (lookup (eq k)) e.entries ∙ last_found (eq k) _ k c.in-Some.value e.updates.1 (g.met.K.Eq.laws.refl k) in
    subst (λ o. RoomFor g.L.Lattice.HasRoom (get eq c.loop-key.self k) o) here (c.loop-key.invariant.values k)

pub join_one-requires-clause-place : goal.join_one-requires-clause-place
join_one-requires-clause-place g c = place_for_last g.K.PartialEq.eq _ _ _ _ _ _ c.in-Some.ensures.entries c.loop-key.invariant.keys

pub loop-key-preserved : goal.loop-key-preserved
loop-key-preserved g c =
    let eq = g.K.PartialEq.eq in
    let k = c.in-Some.key in
    let v = c.in-Some.value in
    let e = c.in-Some.ensures in
    let one = c.join_one.ensures in
    let here = ap (lookup (eq k)) e.entries ∙ last_found (eq k) _ k v e.updates.1 (g.met.K.Eq.laws.refl k) in
    let right = λ (a : g.L.Lattice.Meaning). g.met.L.Lattice.commutative a g.L.Lattice.least ∙ g.met.L.Lattice.least_joined a in
    record {
      total = λ q. joined_at g.L.Lattice.least g.L.Lattice.meaning g.L.Lattice.joined right (eq k q) _ _ _ _ v (g.L.Lattice.meaning v) refl (e.updates.0 q) (one.joined q)
          (λ t. sym (lookup_congr eq g.met.K.Eq.laws.congr _ k q t) ∙ here) ∙ c.loop-key.invariant.total q;
      keys = room_for_others eq _ _ _ _ k v _ _ e.entries c.loop-key.invariant.keys one.kept one.room;
      values = λ q. room_at g.L.Lattice.HasRoom (eq k q) _ _ _ _ v (e.updates.0 q) (one.others q) (c.loop-key.invariant.values q);
    }

pub returns : goal.returns
returns g c =
    let eq = g.K.PartialEq.eq in
    let at = meaning_or g.L.Lattice.least g.L.Lattice.meaning in
    let right = λ (a : g.L.Lattice.Meaning). g.met.L.Lattice.commutative a g.L.Lattice.least ∙ g.met.L.Lattice.least_joined a in
    λ i k. (let none = nothing_found (eq k) c.loop-key.entries.entries (λ h. true≢false (sym (c.in_default.ensures.found.1 h))) in
    sym (right (at (get eq c.loop-key.self k)))
    ∙ ap (λ o. g.L.Lattice.joined (at (get eq c.loop-key.self k)) (at o)) (sym none)
    ∙ c.loop-key.invariant.total k
    ∙ ap (λ m. g.L.Lattice.joined (at (get eq c.args.self.now k)) (at (get eq m k))) c.other.view_is) i

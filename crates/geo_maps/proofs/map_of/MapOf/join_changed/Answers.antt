use Rattle.std.proofs.Common.{refl, sym, ap, ◌∙◌, subst, true≢false, ◌≤◌}
use Rattle.std.specs.HashMap.Eq.{lookup_congr}
use Rattle.std.specs.Map.{lookup}
use Rattle.geo_maps.specs.Maps.{get, meaning_or, missing}
use Rattle.geo_maps.proofs.Entries.{last_found, nothing_found}
use Rattle.geo_maps.proofs.Joining.{joined_at}
use Rattle.geo_maps.proofs.Missing.{place_for_last, room_for_others}
use Rattle.geo_maps.proofs.map_of.MapOf.join_changed.Goals as goal

pub loop-key-init : goal.loop-key-init
loop-key-init g c =
    let eq = g.K.PartialEq.eq in
    let seen = ap (λ m. m.entries) (sym c.other.view_is) in
    record {
      total = λ q. refl;
      keys = subst (λ es. missing eq c.args.self.now.entries es ≤ c.args.self.now.spare) seen c.requires;
    }

pub join_one-requires-clause-place : goal.join_one-requires-clause-place
join_one-requires-clause-place g c = place_for_last g.K.PartialEq.eq _ _ _ _ _ _ c.in-Some.ensures.entries c.loop-key.invariant.keys

pub loop-key-preserved : goal.loop-key-preserved
loop-key-preserved g c =
    let z = g.L.Lattice.least in
    let mean = λ (v : g.row.L.Denot). g.L.Lattice.meaning (g.C.Change.changed c.args.by.now v) in
    let eq = g.K.PartialEq.eq in
    let k = c.in-Some.key in
    let v = c.in-Some.value in
    let e = c.in-Some.ensures in
    let one = c.join_one.ensures in
    let here = ap (lookup (eq k)) e.entries ∙ last_found (eq k) _ k v e.updates.1 (g.met.K.Eq.laws.refl k) in
    let right = λ (a : g.L.Lattice.Meaning). g.met.L.Lattice.commutative a z ∙ g.met.L.Lattice.least_joined a in
    record {
      total = λ q. joined_at z mean g.L.Lattice.joined right (eq k q) _ _ _ _ v (g.L.Lattice.meaning c.change.new.value) (ap g.L.Lattice.meaning c.change.ensures) (e.updates.0 q) (one.joined q)
          (λ t. sym (lookup_congr eq g.met.K.Eq.laws.congr _ k q t) ∙ here) ∙ c.loop-key.invariant.total q;
      keys = room_for_others eq _ _ _ _ k v _ _ e.entries c.loop-key.invariant.keys one.kept one.room;
    }

pub returns : goal.returns
returns g c = λ q.
    let eq = g.K.PartialEq.eq in
    let z = g.L.Lattice.least in
    let at = meaning_or z g.L.Lattice.meaning in
    let left = meaning_or {V = g.row.L.Denot} z (λ v. g.L.Lattice.meaning (g.C.Change.changed c.args.by.now v)) in
    let right = λ (a : g.L.Lattice.Meaning). g.met.L.Lattice.commutative a z ∙ g.met.L.Lattice.least_joined a in
    let none = nothing_found (eq q) c.loop-key.entries.entries (λ h. true≢false (sym (c.in_default.ensures.found.1 h))) in
    sym (right (at (get eq c.loop-key.self q)))
    ∙ ap (λ o. g.L.Lattice.joined (at (get eq c.loop-key.self q)) (left o)) (sym none)
    ∙ c.loop-key.invariant.total q
    ∙ ap (λ m. g.L.Lattice.joined (at (get eq c.args.self.now q)) (left (get eq m q))) c.other.view_is

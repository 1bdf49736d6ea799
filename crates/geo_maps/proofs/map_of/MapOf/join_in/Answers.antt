use Rattle.std.proofs.Common.{◌≡◌, ◌∙◌, sym, ap, subst, is_some, cond}
use Rattle.geo_maps.specs.Maps.{meaning_at, get, StandsAt, IsColumn}
use Rattle.geo_maps.proofs.Entries.{found_written}
use Rattle.geo_maps.proofs.Joining.{joined_least}
use Rattle.geo_maps.proofs.Columns.{column_written, found_at, found_set, joined_in, kept_in}
use Rattle.geo_maps.proofs.map_of.MapOf.join_in.Goals as goal

pub invariant_of-self : goal.invariant_of-self
invariant_of-self g c =
    let m = g.met.L.Lattice in
    let z = g.L.Lattice.least in
    let mean = g.L.Lattice.meaning in
    let eq = g.K.PartialEq.eq in
    let unique = c.len-count.ensures.unique in
    let stands = subst (λ m. StandsAt eq m.entries c.args.place c.args.key.now) (sym c.self.view_is) c.requires.stands in
    let found = found_at eq g.met.K.Eq.laws c.self.inside.entries unique c.args.place c.args.key.now stands c.in-Some.mine.now (sym c.in-Some.ensures.value) in
    found_written (λ v. mean v ≡ z → ⊥) eq c.self.inside.entries.entries _ (eq c.args.key.now) c.join.new.self c.self.invariant (found_set eq g.met.K.Eq.laws c.self.inside.entries unique c.args.place c.args.key.now stands c.join.new.self)
    (λ h. c.self.invariant c.args.key.now c.in-Some.mine.now found (joined_least z g.L.Lattice.joined m.associative m.commutative m.idempotent m.least_joined (mean c.in-Some.mine.now) (mean c.args.value) (sym c.join.ensures ∙ h)))

pub returns-clause-joined : goal.returns-clause-joined
returns-clause-joined g c = λ q.
    let z = g.L.Lattice.least in
    let mean = g.L.Lattice.meaning in
    let eq = g.K.PartialEq.eq in
    let stands = subst (λ m. StandsAt eq m.entries c.args.place c.args.key.now) (sym c.self.view_is) c.requires.stands in
    joined_in eq g.met.K.Eq.laws c.self.inside.entries c.len-count.ensures.unique c.args.place c.args.key.now z mean g.L.Lattice.joined stands c.in-Some.mine.now c.join.new.self (mean c.args.value) (sym c.in-Some.ensures.value) c.join.ensures q
    ∙ ap (λ m. cond (eq c.args.key.now q) (g.L.Lattice.joined (meaning_at z mean eq m q) (mean c.args.value)) (meaning_at z mean eq m q)) c.self.view_is

pub returns-clause-kept : goal.returns-clause-kept
returns-clause-kept g c = λ q.
    let z = g.L.Lattice.least in
    let mean = g.L.Lattice.meaning in
    let eq = g.K.PartialEq.eq in
    let stands = subst (λ m. StandsAt eq m.entries c.args.place c.args.key.now) (sym c.self.view_is) c.requires.stands in
    kept_in eq g.met.K.Eq.laws c.self.inside.entries c.len-count.ensures.unique c.args.place c.args.key.now z mean g.L.Lattice.joined stands c.in-Some.mine.now c.join.new.self (mean c.args.value) (sym c.in-Some.ensures.value) c.join.ensures q
    ∙ ap (λ m. is_some (get eq m q)) c.self.view_is

pub returns-clause-column : goal.returns-clause-column
returns-clause-column g c =
    let measured = g.M.Measure.measured c.args.column.now.measure in
    let place = c.args.place in
    let column = subst (λ m. IsColumn measured m.entries c.args.column.now.measures.items) (sym c.self.view_is) c.requires.column in
    column_written measured c.self.inside.entries.entries c.args.column.now.measures.items c.set.new.measures.items place c.join.new.self c.measure-measured.result column c.set.ensures.others c.set.ensures.set c.measure-measured.ensures

pub returns-clause-other : goal.returns-clause-other
returns-clause-other g c =
    let measured = g.N.Measure.measured c.args.column.now.other in
    let place = c.args.place in
    let column = subst (λ m. IsColumn measured m.entries c.args.column.now.others.items) (sym c.self.view_is) c.requires.other in
    column_written measured c.self.inside.entries.entries c.args.column.now.others.items c.set-2.new.measures.items place c.join.new.self c.measure-beside.result column c.set-2.ensures.others c.set-2.ensures.set c.measure-beside.ensures

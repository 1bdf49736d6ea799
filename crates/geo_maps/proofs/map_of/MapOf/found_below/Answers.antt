use Rattle.std.proofs.Common.{◌≡◌, ◌∙◌, ◌&&◌, sym, ap, subst, nat_lt, false, arith}
use Rattle.geo_maps.specs.Maps.{meaning_at, IsColumn}
use Rattle.geo_maps.proofs.Entries.{none_passes, some_same}
use Rattle.geo_maps.proofs.Columns.{none_between, each_next, none_there}
use Rattle.geo_maps.proofs.map_of.MapOf.found_below.Goals as goal

pub loop-place-preserved : goal.loop-place-preserved
loop-place-preserved g c =
    let measured = g.M.Measure.measured c.args.column.now.measure in
    let bound = c.args.bound in
    let passing = g.T.Test.passing c.args.test.now in
    let es = c.self.inside.entries.entries in
    let cs = c.args.column.now.measures.items in
    let column = subst (λ m. IsColumn measured m.entries cs) (sym c.self.view_is) c.requires.column in
    let next = c.next_below-place.result in
    each_next (λ (k : g.row.K.Denot) v. (nat_lt (measured v) bound && passing v) ≡ false) es next
    (none_between measured bound passing es cs column c.loop-place.place next c.next_below-place.ensures.above c.loop-place.invariant)
    (λ k v at. subst (λ (p : g.row.K.Denot × g.row.L.Denot). (nat_lt (measured p.1) bound && passing p.1) ≡ false) (some_same (c.in-Some-get_index.ensures.entry ∙ at)) (sym c.is_sought.ensures ∙ c.if-is_sought.false))

pub returns-in_default-get_index : goal.returns-in_default-get_index
returns-in_default-get_index g c = λ q.
    let measured = g.M.Measure.measured c.args.column.now.measure in
    let bound = c.args.bound in
    let passing = g.T.Test.passing c.args.test.now in
    let es = c.self.inside.entries.entries in
    let cs = c.args.column.now.measures.items in
    let column = subst (λ m. IsColumn measured m.entries cs) (sym c.self.view_is) c.requires.column in
    let next = c.next_below-place.result in
    let sought = λ (v : g.row.L.Denot). nat_lt (measured v) bound && passing v in
    ap (λ m. meaning_at false sought g.K.PartialEq.eq m q) (sym c.self.view_is)
    ∙ none_passes sought es next (none_there es next (sym c.in_default-get_index.ensures.entry)) (none_between measured bound passing es cs column c.loop-place.place next c.next_below-place.ensures.above c.loop-place.invariant) (g.K.PartialEq.eq q)

pub returns : goal.returns
returns g c = λ q.
    let measured = g.M.Measure.measured c.args.column.now.measure in
    let sought = λ (v : g.row.L.Denot). nat_lt (measured v) c.args.bound && g.T.Test.passing c.args.test.now v in
    ap (λ m. meaning_at false sought g.K.PartialEq.eq m q) (sym c.self.view_is)
    ∙ none_passes sought c.self.inside.entries.entries c.loop-place.place (let long = c.loop-place-test.false in let len = c.len.ensures.len in omega (arith, long, len)) c.loop-place.invariant (g.K.PartialEq.eq q)

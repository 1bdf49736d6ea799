use Rattle.std.proofs.Common.{◌≡◌, ◌∙◌, ◌≤◌, ◌<◌, ◌-◌, sym, ap, subst, false, true, cond, length, arith, Some, None, IfSome, slice_get}
use Rattle.std.specs.Map.{lookup}
use Rattle.geo_maps.specs.Maps.{get}
use Rattle.geo_maps.proofs.Entries.{each_found}
use Rattle.geo_maps.proofs.Columns.{none_there}
use Rattle.geo_maps.proofs.Dropped.{between, not_low, stays, none_left, one_dropped}
use Rattle.geo_maps.proofs.map_of.MapOf.drop_low.Goals as goal

pub returns-in_default-clause-dropped : goal.returns-in_default-clause-dropped
returns-in_default-clause-dropped g c = λ q.
    let i = c.loop-place.invariant in
    let passing = g.T.Test.passing c.args.test.now in
    let measured = g.N.Measure.measured c.loop-place.column.other in
    let es = c.loop-place.self.entries in
    let next = c.next_low-next.result.0 in
    let long = none_there es next (ap (λ m. slice_get m.entries next) (sym c.self.view_is) ∙ sym c.in_default.ensures.entry) in
    let low = λ (v : g.row.L.Denot) (p : passing v ≡ true). subst (λ n. g.N.Measure.measured n v ≤ c.args.most) (sym i.measured) (c.requires.low v p) in
    none_left g.L.Lattice.least g.L.Lattice.meaning passing es next long
    (between measured es c.loop-place.column.others.items (λ v. passing v ≡ false) (λ m. (c.args.most < m) × (c.next_low-next.result.1 ≤ m)) c.loop-place.place next i.other c.next_low-next.ensures.above
    (λ v m high is. not_low (passing v) (measured v) c.args.most m (low v) high.0 is) i.stay) (g.K.PartialEq.eq q)
    ∙ i.meant q

pub returns-in_default-clause-least : goal.returns-in_default-clause-least
returns-in_default-clause-least g c = λ q.
    let i = c.loop-place.invariant in
    let measured = g.N.Measure.measured c.loop-place.column.other in
    let es = c.loop-place.self.entries in
    let next = c.next_low-next.result.0 in
    let least = c.next_low-next.result.1 in
    let long = none_there es next (ap (λ m. slice_get m.entries next) (sym c.self.view_is) ∙ sym c.in_default.ensures.entry) in
    each_found (λ v. least ≤ measured v) es next long
    (between measured es c.loop-place.column.others.items (λ v. least ≤ measured v) (λ m. (c.args.most < m) × (least ≤ m)) c.loop-place.place next i.other c.next_low-next.ensures.above
    (λ v m high is. let h = high.1 in omega (arith, h, is)) (λ j k v lt at. let h = i.least j k v lt at in let l = c.next_low-next.ensures.least in omega (arith, h, l))) (g.K.PartialEq.eq q)

pub returns-clause-dropped : goal.returns-clause-dropped
returns-clause-dropped g c = λ q.
    let i = c.loop-place.invariant in
    let es = c.loop-place.self.entries in
    let long : length es ≤ c.loop-place.place = (let t = c.loop-place-test.false in let len = c.len.ensures.len in let is = ap (λ m. length m.entries) c.self.view_is in omega (arith, t, len, is)) in
    none_left g.L.Lattice.least g.L.Lattice.meaning (g.T.Test.passing c.args.test.now) es c.loop-place.place long i.stay (g.K.PartialEq.eq q) ∙ i.meant q

pub returns-clause-least : goal.returns-clause-least
returns-clause-least g c = λ q.
    let i = c.loop-place.invariant in
    let es = c.loop-place.self.entries in
    let long : length es ≤ c.loop-place.place = (let t = c.loop-place-test.false in let len = c.len.ensures.len in let is = ap (λ m. length m.entries) c.self.view_is in omega (arith, t, len, is)) in
    each_found (λ v. c.loop-place.least ≤ g.N.Measure.measured c.loop-place.column.other v) es c.loop-place.place long i.least (g.K.PartialEq.eq q)

pub loop-place-preserved-then-passes : goal.loop-place-preserved-then-passes
loop-place-preserved-then-passes g c =
    let i = c.loop-place.invariant in
    let passing = g.T.Test.passing c.args.test.now in
    let measured = g.N.Measure.measured c.loop-place.column.other in
    let eq = g.K.PartialEq.eq in
    let es = c.loop-place.self.entries in
    let next = c.next_low-next.result.0 in
    let least = c.next_low-next.result.1 in
    let low = λ (v : g.row.L.Denot) (p : passing v ≡ true). subst (λ n. g.N.Measure.measured n v ≤ c.args.most) (sym i.measured) (c.requires.low v p) in
    let key = c.in-Some.field-0-0.now in
    let value = c.in-Some.value.now in
    let there : slice_get es next ≡ Some (key, value) = ap (λ m. slice_get m.entries next) (sym c.self.view_is) ∙ sym c.in-Some.ensures.entry in
    let found : lookup (eq key) es ≡ Some value = ap (λ m. get eq m key) (sym c.self.view_is) ∙ c.in-Some.ensures.value in
    let one = c.drop_at.ensures in
    let dropped = subst (λ o. IfSome o (λ e. (q : g.row.K.Denot) → get eq c.drop_at.new.self q ≡ cond (eq e.0 q) None (get eq c.loop-place.self q))) there one.dropped in
    let stay = between measured es c.loop-place.column.others.items (λ v. passing v ≡ false) (λ m. (c.args.most < m) × (least ≤ m)) c.loop-place.place next i.other c.next_low-next.ensures.above
    (λ v m high is. not_low (passing v) (measured v) c.args.most m (low v) high.0 is) i.stay in
    let less = between measured es c.loop-place.column.others.items (λ v. least ≤ measured v) (λ m. (c.args.most < m) × (least ≤ m)) c.loop-place.place next i.other c.next_low-next.ensures.above
    (λ v m high is. let h = high.1 in omega (arith, h, is)) (λ j k v lt at. let h = i.least j k v lt at in let l = c.next_low-next.ensures.least in omega (arith, h, l)) in
    record {
      meant = λ q. one_dropped g.L.Lattice.least g.L.Lattice.meaning passing eq g.met.K.Eq.laws es c.drop_at.new.self.entries key value (sym c.passes.ensures ∙ c.if-passes.true) found dropped q ∙ i.meant q;
      stay = stays (λ v. passing v ≡ false) es c.drop_at.new.self.entries next (length es - 1) one.swapped stay;
      least = stays (λ v. least ≤ g.N.Measure.measured c.drop_at.new.column.other v) es c.drop_at.new.self.entries next (length es - 1) one.swapped
          (λ j k v lt at. subst (λ n. least ≤ g.N.Measure.measured n v) (sym one.measures.1) (less j k v lt at));
      column = one.column;
      other = one.other;
      measure = one.measures.0 ∙ i.measure;
      measured = one.measures.1 ∙ i.measured;
      fewer = let f = one.fewer in let was = i.fewer in omega (arith, f, was);
      room = let r = one.room in let was = i.room in omega (arith, r, was);
    }

use Rattle.std.proofs.Common.{◌-◌, Bool, IfSome, slice_get, arith, sym, subst}
use Rattle.geo_values.specs.Stock.{TestAnswers}
use Rattle.geo_values.specs.Links.{links_in, kept_in}
use Rattle.geo_values.specs.Steps.{MayAnswer}
use Rattle.geo_values.proofs.Retained.{Retaining, retaining-first, retaining-passed, retaining-refused, can_go-at, retained}
use Rattle.geo_values.proofs.parts.Parts.retain.Goals as goal

pub loop-index-init : goal.loop-index-init
loop-index-init g c =
    (c.requires.classes, omega arith, subst (Retaining (TestAnswers g.F.Fn c.args.keep) (links_in c.args.self.now) (kept_in c.args.self.now)) (sym c.len-index.ensures.len) (retaining-first (TestAnswers g.F.Fn c.args.keep) (kept_in c.args.self.now) c.requires.linked))

pub passes-requires-clause-linked : goal.passes-requires-clause-linked
passes-requires-clause-linked g c = c.loop-index.invariant.2.linked

pub passes-requires-clause-within : goal.passes-requires-clause-within
passes-requires-clause-within g c = omega (arith, c.loop-index.invariant.2.within, c.loop-index-test.true)

pub take_out_at-requires-clause-goes : goal.take_out_at-requires-clause-goes
take_out_at-requires-clause-goes g c =
    let now = kept_in c.loop-index.self in
    can_go-at (TestAnswers g.F.Fn c.args.keep) (links_in c.args.self.now) now c.loop-index.invariant.2.linked (slice_get now.items (c.loop-index.index - 1)) c.passes.ensures.found

pub loop-index-preserved-then-not-passes : goal.loop-index-preserved-then-not-passes
loop-index-preserved-then-not-passes g c =
    let now = kept_in c.loop-index.self in
    let i = c.loop-index.index in
    let may = TestAnswers g.F.Fn c.args.keep in
    let told = subst (λ (b : Bool). IfSome (slice_get now.items (i - 1)) (λ e. MayAnswer may (links_in c.loop-index.self) e.0 b)) c.if-not-passes.true c.passes.ensures.told in
    (c.take_out_at.ensures.classes, omega (arith, c.take_out_at.ensures.no_more, c.loop-index.invariant.1), retaining-refused may (links_in c.args.self.now) now i c.loop-index.invariant.2 c.loop-index-test.true c.passes.ensures.found told (kept_in c.take_out_at.new.self) c.take_out_at.ensures.out c.take_out_at.ensures.moved)

pub loop-index-preserved : goal.loop-index-preserved
loop-index-preserved g c =
    let now = kept_in c.loop-index.self in
    let i = c.loop-index.index in
    let may = TestAnswers g.F.Fn c.args.keep in
    let told = subst (λ (b : Bool). IfSome (slice_get now.items (i - 1)) (λ e. MayAnswer may (links_in c.loop-index.self) e.0 b)) c.if-not-passes.false c.passes.ensures.told in
    (c.loop-index.invariant.0, c.loop-index.invariant.1, retaining-passed may (links_in c.args.self.now) now i c.loop-index.invariant.2 c.loop-index-test.true c.passes.ensures.found told)

pub returns-clause-retained : goal.returns-clause-retained
returns-clause-retained g c =
    let may = TestAnswers g.F.Fn c.args.keep in
    let old = links_in c.args.self.now in
    let now = kept_in c.loop-index.self in
    retained may old now (subst (Retaining may old now) (omega (arith, c.loop-index-test.false)) c.loop-index.invariant.2)

pub returns-clause-linked : goal.returns-clause-linked
returns-clause-linked g c = c.loop-index.invariant.2.linked

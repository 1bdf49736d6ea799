use Rattle.std.proofs.Common.{arith}
use Rattle.geo_maps.proofs.Missing.{missing_from}
use Rattle.geo_maps.proofs.map_of.MapOf.wanted.Goals as goal

pub overflow_add-most : goal.overflow_add-most
overflow_add-most g c =
    let few = c.loop-index.invariant.1 in
    let lt = c.loop-index-test.true in
    omega (arith, few, lt, c.loop-index.end-fits)

pub returns-then-most-places-clause-enough : goal.returns-then-most-places-clause-enough
returns-then-most-places-clause-enough g c =
    let from = missing_from g.K.PartialEq.eq c.args.self.now.entries c.args.values.now c.loop-index.index in
    let is = c.loop-index.invariant.0 in
    omega (arith, from, is)

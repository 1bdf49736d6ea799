use Rattle.std.proofs.Common.{arith}
use Rattle.geo_grammar.proofs.Transitions.{no_end_none, no_end_take, split_at}
use Rattle.geo_grammar.proofs.split.split_line.Goals as goal

pub returns-in_default-clause-end : goal.returns-in_default-clause-end
returns-in_default-clause-end c = no_end_none c.args.piece.now (λ k lt. c.in_default.ensures k (omega arith) lt)

pub returns-clause-end : goal.returns-clause-end
returns-clause-end c =
    let at = c.in-Some.at in
    rw (c.split_at.ensures.front, c.split_at-2.ensures.back) (no_end_take c.args.piece.now at (omega (arith, c.in-Some.ensures.0.high)) (λ k lt. c.in-Some.ensures.0.before k (omega arith) lt), split_at c.args.piece.now at c.in-Some.ensures.0.high c.in-Some.ensures.1)

use Rattle.std.proofs.Common.{arith, length}
use Rattle.geo_cluster.proofs.Escaping.{no_backslash}
use Rattle.geo_cluster.proofs.script.escape.before_backslash.Goals as goal

pub returns-in-Some-clause-none : goal.returns-in-Some-clause-none
returns-in-Some-clause-none c =
    no_backslash c.in-Some.at c.args.text.now (omega (arith, c.in-Some.ensures.0.high)) (λ k lt. c.in-Some.ensures.0.before k (omega arith) lt)

pub returns-in-None-clause-none : goal.returns-in-None-clause-none
returns-in-None-clause-none c =
    no_backslash (length c.args.text.now) c.args.text.now (omega arith) (λ k lt. c.in-None.ensures k (omega arith) lt)

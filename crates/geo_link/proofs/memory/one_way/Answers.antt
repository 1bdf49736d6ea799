use Rattle.std.proofs.Common.{rules}
use Rattle.geo_link.proofs.Orders.{begins, forks}
use Rattle.geo_link.proofs.memory.one_way.Goals as goal

pub bounded_with-requires-clause-rule : goal.bounded_with-requires-clause-rule
bounded_with-requires-clause-rule c = begins

pub another-gets-requires-clause-rule : goal.another-gets-requires-clause-rule
another-gets-requires-clause-rule c = forks _ _ (search rules) (search rules)

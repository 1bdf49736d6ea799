use Rattle.geo_link.proofs.Orders.{merges}
use Rattle.geo_link.proofs.memory.compare.Goals as goal

pub absorb-requires-clause-rule : goal.absorb-requires-clause-rule
absorb-requires-clause-rule c = merges _ _ _ _ c.requires.puts.1 c.requires.gets.1

use Rattle.geo_link.proofs.Orders.{receives}
use Rattle.geo_link.proofs.memory.MemoryLinkLink.get.Goals as goal

pub recv_as-requires-clause-rule : goal.recv_as-requires-clause-rule
recv_as-requires-clause-rule g c = (receives _ _ c.self.invariant.1.1, λ items views h at. tt)

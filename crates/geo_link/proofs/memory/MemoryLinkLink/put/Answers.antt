use Rattle.geo_link.proofs.Orders.{sends}
use Rattle.geo_link.proofs.memory.MemoryLinkLink.put.Goals as goal

pub send_as-requires-clause-rule : goal.send_as-requires-clause-rule
send_as-requires-clause-rule g c = (sends _ _ _ _ c.self.invariant.0.1 c.requires, λ items views h at. tt)

use Rattle.geo_frame.proofs.Memory.{clean_offer, not_memory}
use Rattle.geo_frame.proofs.asking.read_offer.Goals as goal

pub returns-in-Err-clause-memory : goal.returns-in-Err-clause-memory
returns-in-Err-clause-memory c = λ m. absurd (not_memory _ c.in-Err.fault (clean_offer _) c.in-Err.ensures.read m)

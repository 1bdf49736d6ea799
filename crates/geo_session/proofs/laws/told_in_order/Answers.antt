use Rattle.geo_session.proofs.Chains.{run_tells}
use Rattle.geo_session.proofs.laws.told_in_order.Goals as goal

pub returns : goal.returns
returns g c = λ clock old new exchanges r. run_tells (g.C.Clock.shows clock) exchanges old new r

use Rattle.std.proofs.Common.{arith}
use Rattle.geo_frame.proofs.Lengths.{offer_by}
use Rattle.geo_frame.proofs.length.offer_length.Goals as goal

pub returns-clause-exact : goal.returns-clause-exact
returns-clause-exact c = λ w e d. omega (arith, offer_by w _ _ _ (c.ask_length.ensures.exact w e d) c.offered_length.ensures.exact)

use Rattle.std.proofs.Common.{arith, inl, refl}
use Rattle.geo_gossip.specs.Receiving.Came.{Missed}
use Rattle.geo_gossip.proofs.receiving.hear.Goals as goal

pub returns-in_default : goal.returns-in_default
returns-in_default g c = record {
  heard = (Missed c.in-Err.why, (c.in-Err.ensures.err, c.in_default.not-Closed, refl), refl);
  steps = omega arith;
  last = inl refl;
  ends = tt;
}

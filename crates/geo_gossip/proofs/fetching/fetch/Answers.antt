use Rattle.std.proofs.Common.{[], Ok, Err, inl, inr, refl, arith}
use Rattle.geo_gossip.proofs.fetching.fetch.Goals as goal

pub returns-in-Ok-clause-fetches : goal.returns-in-Ok-clause-fetches
returns-in-Ok-clause-fetches g c = record {
  sought = c.in-Ok.sought.items;
  lacked = record { listed = Ok c.in-Ok.sought; lacking = c.in-Ok.ensures.lacking; these = refl; none = tt };
  few = c.in-Ok.ensures.few;
  asks = inr c.ask_all.ensures.asks;
}

pub returns-in-Err-clause-fetches : goal.returns-in-Err-clause-fetches
returns-in-Err-clause-fetches g c = record {
  sought = [];
  lacked = record { listed = Err c.in-Err.field-0; lacking = c.in-Err.ensures.lacking; these = tt; none = refl };
  few = omega arith;
  asks = inl (refl, refl, refl);
}

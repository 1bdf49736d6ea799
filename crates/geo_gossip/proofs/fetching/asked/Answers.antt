use Rattle.std.proofs.Common.{inr, ap, ℕ, List}
use Rattle.geo_frame.specs.Payloads.{wanted}
use Rattle.geo_frame.specs.Payloads.Payload.{Asks}
use Rattle.geo_frame.specs.declared.message.Message.TheVariants as message
use Rattle.geo_gossip.proofs.fetching.asked.Goals as goal

pub returns-in-None-clause-silent : goal.returns-in-None-clause-silent
returns-in-None-clause-silent g c = inr (inr (inr (record {
  ask = message.Ask c.args.missing.now.from c.args.site c.args.missing.now.sites c.in-Ok.key c.args.missing.now.digest;
  other = c.in-Ok-get.message;
  mid = c.put.new.self;
  far = c.get.new.self;
  asks = ap (λ (k : List ℕ). Asks (wanted c.args.missing.now.from c.args.site c.args.missing.now.sites k c.args.missing.now.digest)) c.in-Ok.ensures.same;
  put = c.in_default-put.ensures.ok;
  got = c.in-Ok-get.ensures.ok;
  strays = c.in-None.ensures.none;
  closed = c.close.ensures;
})))

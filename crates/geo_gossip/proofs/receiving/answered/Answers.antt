use Rattle.geo_gossip.proofs.Hearing.{turned_in_range}
use Rattle.geo_gossip.proofs.receiving.answered.Goals as goal

pub put-requires : goal.put-requires
put-requires g c = turned_in_range c.args.ask.from c.args.ask.to c.args.ask.sites c.args.ask.key c.args.ask.digest c.in_ok-bytes.bytes c.requires c.in_ok-bytes.ensures.short

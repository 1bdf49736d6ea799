use Rattle.geo_link.proofs.Counting.{tally_stays}
use Rattle.geo_wires.proofs.answering.get_from.Goals as goal

pub returns : goal.returns
returns g c = tally_stays c.get.result (λ message. g.K.Link.gets c.args.link.now.link message c.get.new.self.link) (λ why. g.K.Link.get_fails c.args.link.now.link why c.get.new.self.link) _ _ c.get.ensures.ok c.get.ensures.err

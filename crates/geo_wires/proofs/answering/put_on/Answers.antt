use Rattle.geo_link.proofs.Counting.{tally_stays}
use Rattle.geo_wires.proofs.answering.put_on.Goals as goal

pub returns : goal.returns
returns g c = tally_stays c.put.result (λ done. g.K.Link.puts c.args.link.now.link c.args.message c.put.new.self.link) (λ why. g.K.Link.put_fails c.args.link.now.link c.args.message why c.put.new.self.link) _ _ c.put.ensures.ok c.put.ensures.err

use Rattle.geo_slabs.proofs.Kept.{free_keeps}
use Rattle.geo_slabs.proofs.slabs.Slabs.free.Goals as goal

pub returns-clause-others : goal.returns-clause-others
returns-clause-others c = free_keeps c.args.self.now c.free_in.new.self c.args.chunk c.free_in.ensures c.requires

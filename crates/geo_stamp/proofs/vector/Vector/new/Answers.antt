use Rattle.geo_stamp.proofs.Vectors.{zeros_taken}
use Rattle.geo_stamp.proofs.vector.Vector.new.Goals as goal

pub returns : goal.returns
returns c = zeros_taken c.args.sites 16 c.requires

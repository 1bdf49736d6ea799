use Rattle.std.proofs.Common.{arith}
use Rattle.geo_history.proofs.sizes.grown.Goals as goal

pub returns : goal.returns
returns c = omega arith

use Rattle.geo_frame.proofs.Frames.{told_early}
use Rattle.geo_frame.proofs.laws.length_is_told_early.Goals as goal

pub returns : goal.returns
returns c = told_early

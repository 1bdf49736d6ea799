use Rattle.geo_frame.proofs.Frames.{none_begins}
use Rattle.geo_frame.proofs.laws.no_frame_begins_another.Goals as goal

pub returns : goal.returns
returns c = none_begins

use Rattle.geo_frame.proofs.Frames.{one_message}
use Rattle.geo_frame.proofs.laws.frame_is_of_one_message.Goals as goal

pub returns : goal.returns
returns c = one_message

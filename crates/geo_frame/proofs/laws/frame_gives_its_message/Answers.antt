use Rattle.geo_frame.proofs.Frames.{frame_again}
use Rattle.geo_frame.proofs.laws.frame_gives_its_message.Goals as goal

pub returns : goal.returns
returns c = frame_again

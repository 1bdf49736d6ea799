use Rattle.std.proofs.Common.{◌≤◌, length, subst}
use Rattle.geo_frame.specs.declared.message.Message.{Message}
use Rattle.geo_frame.specs.Payloads.{payload_of}
use Rattle.geo_frame.specs.Spelling.{frame_of, longest_frame}
use Rattle.geo_frame.proofs.Frames.{few_told}
use Rattle.geo_frame.proofs.push.push_fields.Goals as goal

pub push_told-requires : goal.push_told-requires
push_told-requires c = few_told _ (subst (λ (m : Message). length (frame_of (payload_of m)) ≤ longest_frame) c.in-Parcel.is c.requires.most)

use Rattle.std.proofs.Common.{subst, arith}
use Rattle.geo_frame.specs.Payloads.{payload_of}
use Rattle.geo_frame.specs.Reading.{Gives}
use Rattle.geo_frame.proofs.Frames.{is_found, frame_again}
use Rattle.geo_frame.proofs.reading.decode.Goals as goal

pub returns-clause-found : goal.returns-clause-found
returns-clause-found c = is_found c.args.bytes.now c.read.result (λ i. omega (arith, c.type_inv.bytes i)) c.read.ensures.exact

pub returns-clause-only : goal.returns-clause-only
returns-clause-only c = λ m fits most e. subst (λ f. Gives payload_of c.read.result f) (frame_again m c.args.bytes.now fits e most) c.read.ensures.exact

use Rattle.std.proofs.Common.{arith, ap, length}
use Rattle.geo_frame.proofs.Lengths.{ask_frame_length}
use Rattle.geo_frame.proofs.length.ask_length.Goals as goal

pub returns-clause-exact : goal.returns-clause-exact
returns-clause-exact c = λ w e d. omega (arith, ask_frame_length w, ap length e, d, ap length c.bytes.ensures.bytes)

use Rattle.std.proofs.Common.{arith, ap, length}
use Rattle.geo_frame.proofs.Lengths.{record_length}
use Rattle.geo_frame.proofs.length.record_length.Goals as goal

pub returns-clause-exact : goal.returns-clause-exact
returns-clause-exact c = omega (arith, record_length c.args.entry.now, ap length c.bytes.ensures.bytes, c.body_length.ensures.exact, c.expiry_length.ensures.exact)

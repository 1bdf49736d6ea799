use Rattle.std.proofs.Common.{take, arith}
use Rattle.geo_stamp.proofs.Vectors.{least_more}
use Rattle.geo_stamp.proofs.vector.Vector.least.Goals as goal

pub loop-clock-preserved : goal.loop-clock-preserved
loop-clock-preserved c =
    let more = least_more (take c.self.inside.sites c.self.inside.entries) c.loop-clock.clock-index c.loop-clock-test.true in
    record { is = omega (arith, more, c.min-least.ensures, c.loop-clock.invariant.is); range = omega (arith, c.min-least.ensures, c.loop-clock.invariant.range) }

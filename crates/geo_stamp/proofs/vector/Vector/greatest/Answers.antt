use Rattle.std.proofs.Common.{◌≤◌, take, arith, get_or}
use Rattle.geo_stamp.specs.Stamps.{last_time}
use Rattle.geo_stamp.proofs.Vectors.{greatest_more, taken_at_most}
use Rattle.geo_stamp.proofs.vector.Vector.greatest.Goals.{then-top-clock, else-top-clock}
use Rattle.geo_stamp.proofs.vector.Vector.greatest.Goals as goal

pub loop-clock-preserved : goal.loop-clock-preserved
loop-clock-preserved c =
    let xs = take c.self.inside.sites c.self.inside.entries in
    let more = greatest_more xs c.loop-clock.clock-index c.loop-clock-test.true in
    let here : get_or xs c.loop-clock.clock-index 0 ≤ last_time = taken_at_most c.self.inside.entries last_time c.self.invariant.range c.self.inside.sites c.loop-clock.clock-index in
    elim c.if-top-clock.branch [
      | then-top-clock w ↦ record { is = omega (arith, more, w.top-is, w.if-top-clock.true, c.loop-clock.invariant.is); range = omega (arith, here, w.top-is) }
      | else-top-clock w ↦ record { is = omega (arith, more, w.top-is, w.if-top-clock.false, c.loop-clock.invariant.is); range = omega (arith, c.loop-clock.invariant.range, w.top-is) }
    ]

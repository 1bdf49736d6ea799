use Rattle.std.proofs.Common.{arith, ◌∙◌}
use Rattle.std.proofs.lemmas.List.{length-set}
use Rattle.geo_stamp.proofs.Sets.{set_step, set_whole}
use Rattle.geo_stamp.proofs.retired.Retired.of_bits.Goals as goal

pub loop-at-preserved : goal.loop-at-preserved
loop-at-preserved c =
    let inv = c.loop-at.invariant in
    record { many = length-set c.loop-at.sites c.loop-at.at _ ∙ inv.many; read = set_step c.loop-at.sites c.loop-at.at c.loop-at.rest c.args.bits inv.many c.loop-at-test.true inv.read }

pub returns : goal.returns
returns c =
    let inv = c.loop-at.invariant in
    set_whole c.loop-at.sites c.loop-at.at c.loop-at.rest c.args.bits inv.many (omega (arith, c.loop-at-test.false)) inv.read

use Rattle.std.proofs.Common.{arith, ap, ◌∙◌, refl, true}
use Rattle.geo_stamp.specs.Vectors.{entry_of}
use Rattle.geo_stamp.specs.Acks.{least_of_sites}
use Rattle.geo_stamp.proofs.Joins.{entry_reads}
use Rattle.geo_stamp.proofs.Least.{least_kept}
use Rattle.geo_stamp.proofs.vector.Vector.least_up_to.Goals as goal

pub loop-at-preserved : goal.loop-at-preserved
loop-at-preserved c =
    let at = c.loop-at.at in
    let entry = entry_reads c.self.inside.sites c.self.inside.entries c.args.self.now c.self.view_is c.self.invariant at in
    let more = least_kept at (λ _. true) (entry_of c.args.self.now) refl in
    record { is = omega (arith, more, entry, c.min-least.ensures, c.loop-at.invariant.is); range = omega (arith, c.min-least.ensures, c.loop-at.invariant.range) }

pub returns-clause-least : goal.returns-clause-least
returns-clause-least c = c.loop-at.invariant.is ∙ ap (λ n. least_of_sites n (λ _. true) (entry_of c.args.self.now)) (omega (arith, c.loop-at-test.false, c.loop-at.auto.at-end))

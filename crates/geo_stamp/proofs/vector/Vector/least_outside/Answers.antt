use Rattle.std.proofs.Common.{Bool, ℕ, arith, ap, sym, ◌∙◌, not}
use Rattle.geo_stamp.specs.Vectors.{entry_of}
use Rattle.geo_stamp.specs.Retired.{is_in}
use Rattle.geo_stamp.specs.Acks.{least_of_sites}
use Rattle.geo_stamp.proofs.Joins.{entry_reads}
use Rattle.geo_stamp.proofs.Least.{least_kept, least_left}
use Rattle.geo_stamp.proofs.vector.Vector.least_outside.Goals.{then-not-has, else-not-has}
use Rattle.geo_stamp.proofs.vector.Vector.least_outside.Goals as goal

pub loop-at-preserved : goal.loop-at-preserved
loop-at-preserved c =
    let at = c.loop-at.at in
    let set = c.args.retired.now in
    let entry = entry_reads c.self.inside.sites c.self.inside.entries c.args.self.now c.self.view_is c.self.invariant at in
    let keep : ℕ → Bool = λ j. not (is_in set j) in
    elim c.if-not-has.branch [
      | then-not-has w ↦
          let more = least_kept at keep (entry_of c.args.self.now) (ap not (sym c.has.ensures ∙ w.if-not-has.true)) in
          record { is = omega (arith, more, entry, w.least-is, w.min-least.ensures, c.loop-at.invariant.is); range = omega (arith, w.least-is, w.min-least.ensures, c.loop-at.invariant.range) }
      | else-not-has w ↦
          let more = least_left at keep (entry_of c.args.self.now) (ap not (sym c.has.ensures ∙ w.if-not-has.false)) in
          record { is = omega (arith, more, w.least-is, c.loop-at.invariant.is); range = omega (arith, w.least-is, c.loop-at.invariant.range) }
    ]

pub returns-clause-least : goal.returns-clause-least
returns-clause-least c = c.loop-at.invariant.is ∙ ap (λ n. least_of_sites n (λ j. not (is_in c.args.retired.now j)) (entry_of c.args.self.now)) (omega (arith, c.loop-at-test.false, c.loop-at.auto.at-end))

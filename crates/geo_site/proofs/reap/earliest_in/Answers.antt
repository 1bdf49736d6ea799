use Rattle.std.proofs.Common.{◌≡◌, ◌+◌, List, ℕ, take, None, Some, sym, ap, ◌∙◌, subst, arith}
use Rattle.std.proofs.lemmas.List.{take_all}
use Rattle.std.specs.List.{All}
use Rattle.std.specs.Prelude.{option_copied}
use Rattle.geo_versions.specs.Maps.{Rec, rec_means}
use Rattle.geo_site.specs.Machine.{earlier_of}
use Rattle.geo_site.specs.Sites.{EndFrom}
use Rattle.geo_site.proofs.Ending.{earlier_least, end_next, end_none, end_more}
use Rattle.geo_site.proofs.reap.earliest_in.Goals.{in-Some, in_default}
use Rattle.geo_site.proofs.reap.earliest_in.Goals as goal

pub loop-rec-preserved : goal.loop-rec-preserved
loop-rec-preserved c = elim c.match-get.branch [
  | in-Some w ↦
      let e = c.loop-rec-item.result in
      let least = c.loop-rec.earliest in
      let is : (rec_means e.1).1 ≡ Some (w.in-Some.kept.now.0, w.in-Some.kept.now.1) = sym c.get.ensures ∙ ap option_copied w.in-Some.is in
      let new : c.match-get.earliest ≡ earlier_of least w.in-Some.kept.now.1 = w.earliest-is ∙ w.earlier-earliest.ensures in
      let le = earlier_least least w.in-Some.kept.now.1 in
      let before = c.loop-rec.invariant.0 in (
        omega (arith, new, le, before),
        subst (λ n. All (EndFrom n) (take (c.loop-rec.rec-index + 1) c.args.records.now)) (sym new)
            (end_more least (earlier_of least w.in-Some.kept.now.1) c.args.records.now c.loop-rec.rec-index e c.loop-rec-test.true c.loop-rec-item.is le c.loop-rec.invariant.1 (end_next least w.in-Some.kept.now.1 e w.in-Some.kept.now.0 is)),
      )
  | in_default w ↦
      let e = c.loop-rec-item.result in
      let least = c.loop-rec.earliest in
      let is : (rec_means e.1).1 ≡ None = sym c.get.ensures ∙ ap option_copied w.in_default.is in
      let new = w.earliest-is in
      let before = c.loop-rec.invariant.0 in (
        omega (arith, new, before),
        subst (λ n. All (EndFrom n) (take (c.loop-rec.rec-index + 1) c.args.records.now)) (sym new)
            (end_more least least c.args.records.now c.loop-rec.rec-index e c.loop-rec-test.true c.loop-rec-item.is (omega arith) c.loop-rec.invariant.1 (end_none least e is)),
      )
]

pub returns-clause-ends : goal.returns-clause-ends
returns-clause-ends c = subst (λ (es : List (List ℕ × Rec)). All (EndFrom c.loop-rec.earliest) es) (take_all c.loop-rec.rec-index c.args.records.now c.loop-rec-test.false) c.loop-rec.invariant.1

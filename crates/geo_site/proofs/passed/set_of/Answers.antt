use Rattle.std.proofs.Common.{true, cond, take, ap, ◌∙◌}
use Rattle.std.proofs.lemmas.List.{take_all}
use Rattle.std.specs.List.{list_any}
use Rattle.geo_records.specs.Keys.{same_key}
use Rattle.geo_site.proofs.Passing.{passed_more, one_taken}
use Rattle.geo_site.proofs.passed.set_of.Goals as goal

pub loop-key-preserved : goal.loop-key-preserved
loop-key-preserved c = λ q.
    let before = take c.loop-key.key-index c.args.keys.now in
    c.in_ok-insert.ensures.updates.0 (record { ref_ptr = c.args.keys.ref_ptr; now = q })
    ∙ ap (cond (same_key c.key-item.result q) true) (c.loop-key.invariant q)
    ∙ passed_more before c.key-item.result q
    ∙ ap (list_any (same_key q)) (one_taken c.args.keys.now c.loop-key.key-index c.key-item.result c.loop-key-test.true c.key-item.is)

pub returns : goal.returns
returns c = λ q. c.loop-key.invariant q ∙ ap (list_any (same_key q)) (take_all c.loop-key.key-index c.args.keys.now c.loop-key-test.false)

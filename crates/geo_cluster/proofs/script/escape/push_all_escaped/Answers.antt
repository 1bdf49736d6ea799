use Rattle.std.proofs.Common.{◌≡◌, ◌++◌, take, drop, List, ℕ, ap, ◌∙◌}
use Rattle.geo_cluster.specs.Escapes.{escaped}
use Rattle.geo_cluster.proofs.Escaping.{block_printed}
use Rattle.geo_cluster.proofs.script.escape.push_all_escaped.Goals as goal

pub loop-rest-preserved : goal.loop-rest-preserved
loop-rest-preserved c =
    let n = c.in_ok-count.count in
    let m = c.min.result in
    let mixed = c.split_at.result.1.now in
    let plain = c.push_plain.new.out.items in
    let all = c.args.out.now.items ++ escaped c.args.bytes.now in
    let came : plain ++ escaped mixed ≡ all = ap (λ (x : List ℕ). plain ++ escaped x) c.split_at.ensures.back ∙ c.in_ok-count.ensures.text ∙ c.loop-rest.invariant in
    let pushed : c.push_each.new.out.items ≡ plain ++ escaped (take m mixed) = c.in_ok-push_each.ensures ∙ ap (λ (x : List ℕ). plain ++ escaped x) c.split_at-in-loop-rest.ensures.front in
    ap (λ (x : List ℕ). c.push_each.new.out.items ++ escaped x) c.split_at-in-loop-rest.ensures.back
    ∙ ap (λ (x : List ℕ). x ++ escaped (drop m mixed)) pushed ∙ block_printed m plain mixed all came

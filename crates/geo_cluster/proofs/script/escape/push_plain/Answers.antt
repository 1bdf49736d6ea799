use Rattle.std.proofs.Common.{◌≡◌, ◌++◌, take, drop, List, ℕ, ap, ◌∙◌}
use Rattle.geo_cluster.specs.Escapes.{escaped}
use Rattle.geo_cluster.proofs.Escaping.{plain_printed}
use Rattle.geo_cluster.proofs.script.escape.push_plain.Goals as goal

pub returns-clause-text : goal.returns-clause-text
returns-clause-text c =
    let n = c.plain_front-count.result in
    let bytes = c.args.bytes.now in
    let before = c.args.out.now.items in
    let pushed : c.extend_from_slice.new.self.items ≡ before ++ take n bytes = c.in_ok-extend_from_slice.ensures.items ∙ ap (λ (x : List ℕ). before ++ x) c.split_at.ensures.front in
    ap (λ (x : List ℕ). x ++ escaped (drop n bytes)) pushed ∙ plain_printed n before bytes c.plain_front-count.ensures.plain

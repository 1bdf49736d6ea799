use Rattle.std.proofs.Common.{◌≡◌, ◌+◌, ◌++◌, true, take, drop, List, ℕ, sym, ap, subst, ◌∙◌}
use Rattle.std.specs.List.{list_all}
use Rattle.geo_cluster.specs.Escapes.{behind, unescaped_from, is_no_backslash}
use Rattle.geo_cluster.specs.declared.script.escape.Spot.{Spot}
use Rattle.geo_cluster.proofs.Escaping.{plain_spelled}
use Rattle.geo_cluster.proofs.script.escape.push_unspelled.Goals as goal

pub returns-clause-same : goal.returns-clause-same
returns-clause-same c =
    let at = c.args.at in
    let n = c.before_backslash-count.result in
    let text = c.args.text.now in
    let done = c.args.bytes.now.items in
    let more = c.extend_from_slice.new.self.items in
    let none : list_all is_no_backslash (take n (drop at text)) ≡ true = ap (λ (x : List ℕ). list_all is_no_backslash (take n x)) (sym c.split_at.ensures.back) ∙ c.before_backslash-count.ensures.none in
    let pushed : more ≡ done ++ take n (drop at text) = c.in_ok-extend_from_slice.ensures.items ∙ ap (λ (x : List ℕ). done ++ x) (c.split_at-2.ensures.front ∙ ap (λ (x : List ℕ). take n x) c.split_at.ensures.back) in
    subst (λ (s : Spot). behind more (unescaped_from s (drop (at + n) text)) ≡ behind done (unescaped_from s (drop at text))) (sym c.in-Between.is)
    (ap (λ (x : List ℕ). behind x (unescaped_from _ (drop (at + n) text))) pushed ∙ plain_spelled at n done text none)

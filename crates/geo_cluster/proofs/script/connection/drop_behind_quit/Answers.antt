use Rattle.std.proofs.Common.{◌≡◌, ◌+◌, ◌≤◌, suc, Some, None, List, length, take, sym, ap, subst, ◌∙◌, arith}
use Rattle.std.specs.List.{position_or_len}
use Rattle.geo_grammar.specs.declared.item.Item.{Item}
use Rattle.geo_grammar.specs.Quitting.{is_quit}
use Rattle.geo_cluster.proofs.Cutting.{position_says}
use Rattle.geo_cluster.proofs.Quitting.{until_first, until_none}
use Rattle.geo_cluster.proofs.script.connection.drop_behind_quit.Goals as goal

pub returns-in-Some : goal.returns-in-Some
returns-in-Some c =
    let items : List Item = c.args.items.now.items in
    let says = position_says is_quit c.as_slice.result.now (Some c.in-Some.at) c.in-Some.ensures in
    let place : position_or_len is_quit c.as_slice.result.now ≡ position_or_len is_quit items = ap (λ (x : List Item). position_or_len is_quit x) c.as_slice.ensures.value in
    let many : c.in-Some.at + 1 ≡ suc (position_or_len is_quit items) = omega (arith, says.0, place) in
    c.truncate.ensures.items ∙ ap (λ n. take n items) many ∙ sym (until_first items)

pub returns-in-None : goal.returns-in-None
returns-in-None c = sym (until_none c.args.items.now.items (subst (λ (x : List Item). length x ≤ position_or_len is_quit x) c.as_slice.ensures.value (position_says is_quit c.as_slice.result.now None c.in-None.ensures)))

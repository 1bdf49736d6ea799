use Rattle.std.proofs.Common.{◌≡◌, ◌+◌, IfOk, ap, subst, arith}
use Rattle.geo_slabs.specs.Storage.{Storage, class_count}
use Rattle.geo_values.specs.Stock.{Same, first_stock}
use Rattle.geo_values.specs.Held.{stock_in}
use Rattle.geo_values.specs.Links.{Kept}
use Rattle.geo_site.proofs.site.fresh_values.Goals as goal

pub returns : goal.returns
returns c =
    let opened = c.in-Ok.ensures.opened in
    let least = c.requires.0 in
    let spare = ap (λ (s : Storage). s.spare) opened.2 in
    let pages : c.in-Ok.slabs.spare + class_count ≡ c.args.pages = omega (arith, least, spare) in
    subst (λ n. IfOk c.new-2.result (λ (values : Kept). Same (first_stock n) (stock_in values))) pages c.new-2.ensures

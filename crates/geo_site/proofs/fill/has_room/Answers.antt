use Rattle.std.proofs.Common.{◌∙◌, not, ap}
use Rattle.geo_values.specs.Stock.{is_full}
use Rattle.geo_values.specs.Held.{stock_in}
use Rattle.geo_site.specs.Machine.{class_for}
use Rattle.geo_site.proofs.Filling.{full_told}
use Rattle.geo_site.proofs.fill.has_room.Goals as goal

pub returns : goal.returns
returns c =
    let stock = stock_in c.args.values.now in
    ap not (full_told stock c.get.result c.is_full.result c.is_full.ensures) ∙ ap (λ n. not (is_full stock (class_for n))) c.get.ensures.bytes

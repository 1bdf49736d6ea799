use Rattle.std.proofs.Common.{◌≡◌, ◌∙◌, ap, subst, sym, codes, Some}
use Rattle.toml.specs.Data.{array}
use Rattle.toml.specs.View.{array_view, items_view, view}
use Rattle.toml.proofs.Views.{table_get}
use Rattle.geo_config.proofs.Values.{array_is}
use Rattle.geo_config.proofs.draft.rows_of.Goals as goal

pub returns-in-Some-as_array : goal.returns-in-Some-as_array
returns-in-Some-as_array c =
    let found = table_get c.get.result (codes "site") c.args.document.now.entries c.get.ensures.value in
    let here = rw c.in-Some.is at found in
    sym here ∙ ap Some (array_is (view c.in-Some.value.now) (array_view c.in-Some-as_array.rows.now) (sym c.in-Some-as_array.ensures))
    ∙ ap (λ l. Some (array (items_view l))) (sym c.as_slice.ensures.value)

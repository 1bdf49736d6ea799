use Rattle.std.proofs.Common.{◌≡◌, ◌∙◌, ap, subst, sym, Some, string_bytes}
use Rattle.std.specs.Prelude.{option_and_then}
use Rattle.toml.specs.Data.{as_str}
use Rattle.toml.proofs.Views.{table_get}
use Rattle.geo_config.proofs.keys.text_at.Goals as goal

pub returns-in_ok-owned-in-Some-as_str : goal.returns-in_ok-owned-in-Some-as_str
returns-in_ok-owned-in-Some-as_str c =
    let found = table_get c.get.result c.args.name.now c.args.table.now.entries c.get.ensures.value in
    let here = rw c.in-Some.is at found in
    subst (λ m. option_and_then as_str m ≡ Some (string_bytes c.in_ok-owned-in-Some-as_str.owned)) here
    (sym c.in-Some-as_str.ensures ∙ ap Some (sym c.in_ok-owned-in-Some-as_str.ensures.ok))

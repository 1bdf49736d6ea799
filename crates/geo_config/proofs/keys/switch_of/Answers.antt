use Rattle.std.proofs.Common.{◌≡◌, Some, IfOk, refl, subst}
use Rattle.toml.proofs.Views.{table_get}
use Rattle.geo_config.specs.Document.{switch_or}
use Rattle.geo_config.proofs.Values.{ok_is_some}
use Rattle.geo_config.proofs.keys.switch_of.Goals as goal

pub returns-in-Some : goal.returns-in-Some
returns-in-Some c =
    let found = table_get c.get.result c.args.name.now c.args.document.now.entries c.get.ensures.value in
    let here = rw c.in-Some.is at found in
    let read = ok_is_some c.as_bool.result c.ok_or.result c.ok_or.ensures.ok_part in
    subst (λ m. IfOk c.ok_or.result (λ on. switch_or c.args.default m ≡ Some on)) here
    (subst (λ o. IfOk c.ok_or.result (λ on. o ≡ Some on)) c.as_bool.ensures read)

pub returns-in-None : goal.returns-in-None
returns-in-None c =
    let found = table_get c.get.result c.args.name.now c.args.document.now.entries c.get.ensures.value in
    let here = rw c.in-None.is at found in
    subst (λ m. switch_or c.args.default m ≡ Some c.args.default) here refl

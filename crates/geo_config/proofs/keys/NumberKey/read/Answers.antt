use Rattle.std.proofs.Common.{◌≡◌, Some, IfOk, subst}
use Rattle.toml.proofs.Views.{table_get}
use Rattle.geo_config.specs.Document.{number_or}
use Rattle.geo_config.proofs.Values.{ok_is_some}
use Rattle.geo_config.proofs.keys.NumberKey.read.Goals as goal

pub returns-in-Some : goal.returns-in-Some
returns-in-Some c =
    let found = table_get c.get.result c.args.self.now.name.now c.args.table.now.entries c.get.ensures.value in
    let here = rw c.in-Some.is at found in
    let read = ok_is_some c.as_integer.result c.ok_or.result c.ok_or.ensures.ok_part in
    subst (λ m. IfOk c.ok_or.result (λ number. number_or c.args.self.now.default m ≡ Some number)) here
    (subst (λ o. IfOk c.ok_or.result (λ number. o ≡ Some number)) c.as_integer.ensures read)

pub returns-in-None : goal.returns-in-None
returns-in-None c =
    let found = table_get c.get.result c.args.self.now.name.now c.args.table.now.entries c.get.ensures.value in
    let here = rw c.in-None.is at found in
    let read = ok_is_some c.args.self.now.default c.ok_or-in-None.result c.ok_or-in-None.ensures.ok_part in
    subst (λ m. IfOk c.ok_or-in-None.result (λ number. number_or c.args.self.now.default m ≡ Some number)) here read

use Rattle.std.proofs.Common.{◌≡◌, Some, None, codes, pos, subst, sym}
use Rattle.toml.specs.View.{table_view}
use Rattle.toml.proofs.Views.{table_get}
use Rattle.geo_config.specs.Document.{SessionsAre, number_or}
use Rattle.geo_config.proofs.keys.sessions_of.Goals as goal

pub returns-in-Some-clause-are : goal.returns-in-Some-clause-are
returns-in-Some-clause-are c =
    let found = table_get c.get.result (codes "sessions") c.args.document.now.entries c.get.ensures.value in
    let here = rw c.in-Some.is at found in
    let said = subst (λ m. number_or (Some (pos 1048576)) m ≡ Some (pos c.args.said)) (sym here) c.requires in
    subst (λ m. SessionsAre m (Some c.args.said)) here said

pub returns-in-None-clause-are : goal.returns-in-None-clause-are
returns-in-None-clause-are c =
    let found = table_get c.get.result (codes "sessions") c.args.document.now.entries c.get.ensures.value in
    let here = rw c.in-None.is at found in
    subst (λ m. SessionsAre m None) here tt

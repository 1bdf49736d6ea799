use Rattle.std.proofs.Common.{IfSome, codes, refl, subst, sym}
use Rattle.toml.specs.View.{view}
use Rattle.toml.proofs.Views.{table_get}
use Rattle.geo_config.specs.Document.{LinkIs}
use Rattle.geo_config.proofs.Values.{named_is_link}
use Rattle.geo_config.specs.declared.settings.LinkKind.TheVariants as kind
use Rattle.geo_config.proofs.keys.link_of.Goals as goal

pub returns-in-None : goal.returns-in-None
returns-in-None c =
    let found = table_get c.get.result (codes "link") c.args.document.now.entries c.get.ensures.value in
    let here = rw c.in-None.is at found in
    subst (λ m. LinkIs m kind.Memory) here refl

pub returns-in-Some-as_str : goal.returns-in-Some-as_str
returns-in-Some-as_str c =
    let found = table_get c.get.result (codes "link") c.args.document.now.entries c.get.ensures.value in
    let here = rw c.in-Some.is at found in
    let is = sym c.in-Some-as_str.ensures in
    let named = named_is_link c.link_named.result c.in-Some-as_str.text.now (view c.in-Some.value.now) is c.link_named.ensures in
    subst (λ m. IfSome c.link_named.result (LinkIs m)) here named

use Rattle.std.proofs.Common.{ap}
use Rattle.toml.specs.View.{table_view}
use Rattle.geo_config.specs.declared.settings.Config.{Config}
use Rattle.geo_config.proofs.Rows.{sites_say}
use Rattle.geo_config.proofs.reading.config.Goals as goal

pub returns-clause-sites : goal.returns-clause-sites
returns-clause-sites c =
    let read = table_view c.in_ok-document.document in
    let before = c.in_ok-config.config in
    let after = c.in_ok-ordered.ordered in (
      read,
      c.in_ok-document.ensures.toml,
      record {
        written = before.sites.items;
        say = sites_say read c.in_ok-draft.draft before after c.in_ok-draft.ensures.sites c.in_ok-config.ensures.link
            (ap (λ (k : Config). k.link) c.in_ok-ordered.ensures.others) c.in_ok-config.ensures.sites;
        same = c.in_ok-ordered.ensures.same_sites;
      },
    )

use Rattle.std.proofs.Common.{rules, sym}
use Rattle.toml.specs.View.{table_view, view}
use Rattle.geo_config.proofs.Values.{table_is}
use Rattle.geo_config.proofs.draft.site_draft.Goals as goal

pub returns-clause-says : goal.returns-clause-says
returns-clause-says c =
    let row = table_view c.in-Some.site.now in (
      row,
      table_is (view c.args.row.now) row (sym c.in-Some.ensures),
      record {
        number = search (rules, c.in_ok-number.ensures);
        client = c.in_ok-client.ensures;
        workers = search (rules, c.in_ok-workers.ensures);
        peer = c.in_ok-peer.ensures.says;
      },
    )

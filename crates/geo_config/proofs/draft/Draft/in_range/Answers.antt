use Rattle.std.proofs.Common.{rules, arith}
use Rattle.geo_config.proofs.draft.Draft.in_range.Goals as goal

pub returns-clause-in_range : goal.returns-clause-in_range
returns-clause-in_range c = record {
  pages = search (rules, c.in_ok-pages.ensures.range);
  max_records = search (rules, c.in_ok-max_records.ensures.range);
  reap_after = search (rules, c.in_ok-reap_after.ensures.range);
  every = search (rules, c.in_ok-every.ensures.range);
  era = search (rules, c.in_ok-era.ensures.range);
  era_bytes = search (rules, c.in_ok-era_bytes.ensures.range);
  sessions = search (rules, c.in_ok-sessions.ensures.range);
  patience = c.in_ok-waits.ensures.patience;
  drain = c.in_ok-waits.ensures.drain;
  count = search rules;
  sites = search (rules, c.in_ok-sites.ensures.each);
}

use Rattle.geo_versions.proofs.Listed.{there_has_register}
use Rattle.geo_versions.proofs.versions.Versions.len.Goals as goal

pub returns-clause-kept : goal.returns-clause-kept
returns-clause-kept c = there_has_register c.args.self.now.records.entries c.len.ensures.filled

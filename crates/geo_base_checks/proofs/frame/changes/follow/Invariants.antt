use Rattle.geo_versions.specs.Maps.{record_in}
use Rattle.geo_delta.specs.Changes.{nothing_pending}
use Rattle.geo_delta.specs.Telling.{Tells}
use Rattle.geo_base_checks.proofs.frame.changes.follow.Given as goal

abbrev pub invariant-loop-op : goal.invariant-loop-op
invariant-loop-op l = Tells nothing_pending (record_in l.site.versions) l.site.changes

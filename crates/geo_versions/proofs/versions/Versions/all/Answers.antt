use Rattle.geo_versions.proofs.Listed.{rising_from_sorted}
use Rattle.geo_versions.proofs.versions.Versions.all.Goals as goal

pub returns-clause-rising : goal.returns-clause-rising
returns-clause-rising c = rising_from_sorted c.in_ok-all.all.items c.in_ok-all.ensures.rising

use Rattle.geo_maps.specs.Maps.{get}
use Rattle.geo_records.specs.Keys.{same_key}
use Rattle.geo_versions.proofs.Listed.{rising_from_sorted, listed_whole}
use Rattle.geo_versions.proofs.versions.Versions.copies.Goals as goal

pub returns-clause-rising : goal.returns-clause-rising
returns-clause-rising c = rising_from_sorted c.in_ok-all.all.items c.in_ok-all.ensures.rising

pub returns-clause-records : goal.returns-clause-records
returns-clause-records c =
    listed_whole c.in_ok-all.all.items (get same_key c.args.self.now.records) c.in_ok-all.ensures.unique c.in_ok-all.ensures.shown

use Rattle.std.proofs.Common.{◌∙◌, ap}
use Rattle.std.specs.Option.{option_and_then}
use Rattle.geo_maps.specs.Maps.{get}
use Rattle.geo_records.specs.Keys.{same_key}
use Rattle.geo_versions.specs.Records.{rec_since}
use Rattle.geo_versions.proofs.Listed.{rising_from_sorted, listed_since, all_filled}
use Rattle.geo_versions.proofs.versions.Versions.since.Goals as goal

pub returns-clause-rising : goal.returns-clause-rising
returns-clause-rising c = rising_from_sorted c.in_ok-all.all.items c.in_ok-all.ensures.rising

pub returns-clause-records : goal.returns-clause-records
returns-clause-records c =
    listed_since c.args.base.now c.in_ok-all.all.items (get same_key c.args.self.now.records) c.in_ok-all.ensures.unique
    (λ q. c.in_ok-all.ensures.shown q ∙ ap (λ b. option_and_then (rec_since b) (get same_key c.args.self.now.records q)) c.copied.ensures)

pub returns-clause-filled : goal.returns-clause-filled
returns-clause-filled c =
    all_filled c.args.base.now c.in_ok-all.all.items (get same_key c.args.self.now.records) c.in_ok-all.ensures.unique
    (λ q. c.in_ok-all.ensures.shown q ∙ ap (λ b. option_and_then (rec_since b) (get same_key c.args.self.now.records q)) c.copied.ensures)

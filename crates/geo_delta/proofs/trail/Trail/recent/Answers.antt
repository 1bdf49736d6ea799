use Rattle.std.proofs.Common.{ap, ◌∙◌}
use Rattle.std.specs.List.{list_any}
use Rattle.geo_records.specs.Keys.{same_key}
use Rattle.geo_delta.specs.Heads.{keys_under}
use Rattle.geo_delta.proofs.Trailing.{trail_news}
use Rattle.geo_delta.proofs.trail.Trail.recent.Goals as goal

pub returns-in_ok-looked_up-in-Some-clause-records : goal.returns-in_ok-looked_up-in-Some-clause-records
returns-in_ok-looked_up-in-Some-clause-records g c =
    trail_news c.args.self.now (g.T.Lookup.record_of c.args.versions.now) c.args.base.now c.in-Some.first (keys_under c.sorted-keys.result.items) c.in_ok-looked_up-in-Some.field-0.items c.requires.trailed c.in-Some.ensures.covered
    (λ q. c.sorted-keys.ensures.same q ∙ ap (list_any (same_key q)) c.in_ok-keys_from-in-Some.ensures.keys)
    c.in_ok-looked_up-in-Some.ensures.records

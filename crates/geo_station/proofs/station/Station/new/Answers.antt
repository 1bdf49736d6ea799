use Rattle.std.proofs.Common.{[], ◌∙◌, sym}
use Rattle.std.proofs.lemmas.Grind.{merely}
use Rattle.geo_history.specs.Stories.{story_in, setup_in}
use Rattle.geo_station.proofs.Counting.{none_made}
use Rattle.geo_station.proofs.Noting.{whole_opened}
use Rattle.geo_station.proofs.station.Station.new.Goals as goal

pub invariant_of-desk-clause-total : goal.invariant_of-desk-clause-total
invariant_of-desk-clause-total g c = c.open-book.ensures.total ∙ sym (none_made (story_in c.unopened.inside.kept) c.unopened.invariant.2.counts c.unopened.invariant.2.steps)

pub invariant_of-desk-clause-whole : goal.invariant_of-desk-clause-whole
invariant_of-desk-clause-whole g c =
    merely (whole_opened (setup_in c.unopened.inside.kept) (story_in c.unopened.inside.kept) _ c.unopened.invariant.2 (c.named.ensures ∙ (λ i. record { start = c.unopened.invariant.1 i; steps = []; given = 0 })))

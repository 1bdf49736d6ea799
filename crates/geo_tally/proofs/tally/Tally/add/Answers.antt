use Rattle.std.proofs.Common.{◌<◌, arith, ap, sym, ◌∙◌}
use Rattle.geo_tally.specs.Counts.{whole}
use Rattle.geo_tally.specs.Words.{most_adds}
use Rattle.geo_tally.proofs.Steps.{add_allowed}
use Rattle.geo_tally.proofs.tally.Tally.add.Goals as goal

pub fetch_add-requires : goal.fetch_add-requires
fetch_add-requires c =
    let kept = c.seat.invariant in
    let less : whole c.seat.inside.seat.me.0.counts < most_adds = omega (arith, kept.counted, kept.most, c.if-seat-eq-MOST_ADDS.false) in (
      ap (λ s. s.tally) c.seat.view_is ∙ c.requires.given ∙ sym (ap (λ t. t.tally) c.self.view_is),
      omega (arith, c.self.invariant.words, c.place.ensures.range),
      rw c.place.ensures.place (add_allowed _ _ _ _ c.args.counter kept.part less),
    )

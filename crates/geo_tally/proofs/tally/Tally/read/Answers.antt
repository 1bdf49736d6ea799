use Rattle.std.proofs.Common.{arith, ap, sym, ◌∙◌}
use Rattle.geo_tally.proofs.Steps.{look_allowed}
use Rattle.geo_tally.proofs.tally.Tally.read.Goals as goal

pub load-requires : goal.load-requires
load-requires c = (
  ap (λ s. s.tally) c.seat.view_is ∙ c.requires.given ∙ sym (ap (λ t. t.tally) c.self.view_is),
  omega (arith, c.self.invariant.words, c.place.ensures.range),
  rw c.place.ensures.place (look_allowed _ _ _ _ c.args.counter),
)

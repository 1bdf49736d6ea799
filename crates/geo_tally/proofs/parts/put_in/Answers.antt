use Rattle.std.proofs.Common.{arith, ap, ◌∙◌}
use Rattle.geo_tally.proofs.Steps.{join_allowed}
use Rattle.geo_tally.proofs.parts.put_in.Goals as goal

pub join_seat-requires : goal.join_seat-requires
join_seat-requires c = (
  c.requires.given.0,
  ap (λ s. s.tally) c.one.view_is ∙ c.requires.given.1,
  c.one.invariant.slotless,
  omega (arith, c.requires.words),
  join_allowed _ _ _ _ _,
)

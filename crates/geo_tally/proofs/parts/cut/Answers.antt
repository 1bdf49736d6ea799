use Rattle.std.proofs.Common.{rules, ◌≤◌, arith, ap}
use Rattle.geo_tally.proofs.Steps.{split_allowed}
use Rattle.geo_tally.proofs.parts.cut.Goals as goal

pub split_seat-seat-requires : goal.split_seat-seat-requires
split_seat-seat-requires c =
    let kept = c.loop.invariant in
    let some_part : 1 ≤ c.loop.first.me.0.parts = omega (arith, ap (λ m. m.0.parts) kept.1, c.loop-test.true) in (
      kept.0,
      search rules,
      split_allowed _ _ c.loop.first.me.0 some_part (ap (λ m. m.0.counts) kept.1),
    )

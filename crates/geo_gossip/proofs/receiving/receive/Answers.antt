use Rattle.std.proofs.Common.{arith, ◌≡◌, ℕ, ◌+◌, ◌≤◌, Bool, if◌then◌else◌, ap, ◌∙◌, sym}
use Rattle.std.specs.Prelude.{min}
use Rattle.geo_gossip.specs.Receiving.{most_counted}
use Rattle.geo_gossip.proofs.Hearing.{hears_on, keeps_on}
use Rattle.geo_gossip.proofs.receiving.receive.Goals as goal

pub loop-preserved-then-took : goal.loop-preserved-then-took
loop-preserved-then-took g c =
    let i = c.loop.invariant in
    let taken = c.in-Some-hear.ensures in
    let one : c.loop.seat.steps + 1 ≤ c.hear.new.seat.steps = omega (arith, taken.steps, ap {B = ℕ} (λ (b : Bool). if b then 1 else 0) c.if-took.true) in
    let counted : c.saturating_add-count.result ≡ min (c.loop.count + 1) most_counted = c.saturating_add-count.ensures in (
      tt,
      tt,
      omega (arith, i.2, one, counted),
      keeps_on _ _ _ i.3 taken.last,
      hears_on _ _ _ _ _ _ _ _ _ _ c.loop.count _ c.in-Some-hear.took i.4 taken.heard (counted ∙ sym (ap (λ (b : Bool). if b then min (c.loop.count + 1) most_counted else c.loop.count) c.if-took.true)),
    )

pub loop-preserved : goal.loop-preserved
loop-preserved g c =
    let i = c.loop.invariant in
    let taken = c.in-Some-hear.ensures in
    let none : c.loop.seat.steps ≤ c.hear.new.seat.steps = omega (arith, taken.steps, ap {B = ℕ} (λ (b : Bool). if b then 1 else 0) c.if-took.false) in (
      tt,
      tt,
      omega (arith, i.2, none),
      keeps_on _ _ _ i.3 taken.last,
      hears_on _ _ _ _ _ _ _ _ _ _ c.loop.count _ c.in-Some-hear.took i.4 taken.heard (sym (ap (λ (b : Bool). if b then min (c.loop.count + 1) most_counted else c.loop.count) c.if-took.false)),
    )

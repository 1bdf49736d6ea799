use Rattle.std.proofs.Common.{◌≡◌, ℕ, List, [], subst, arith}
use Rattle.geo_lru.specs.Placed.{IsFiled}
use Rattle.geo_lru.proofs.Placing.{filed-popped, filed-empty, no-entries}
use Rattle.geo_lru.proofs.cold.index_noted.Goals as goal

pub loop-place-preserved : goal.loop-place-preserved
loop-place-preserved c = λ q i filed. filed-popped c.loop-place.noted.items c.pop.new.self.items c.in-Some.place c.in-Some.item c.loop-place.index c.add.new.index c.in-Some.ensures.items
    (c.add.ensures.free c.if-not-add.false) (c.add.ensures.added c.if-not-add.false) q i (c.loop-place.invariant q i filed)

pub returns : goal.returns
returns c = λ _ q i filed.
    let nothing : c.loop-place.noted.items ≡ [] = no-entries c.loop-place.noted.items (λ some. omega (arith, some, c.loop-place.noted.ok, c.in_default.ensures.cases.0)) in
    filed-empty c.loop-place.index q i (subst (λ (l : List (ℕ × ℕ)). IsFiled l c.loop-place.index q i) nothing (c.loop-place.invariant q i filed))

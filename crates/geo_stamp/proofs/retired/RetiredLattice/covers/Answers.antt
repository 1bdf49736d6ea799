use Rattle.std.proofs.Common.{arith, refl, sym, ◌∙◌, true≢false}
use Rattle.geo_stamp.specs.Retired.{set_joined}
use Rattle.geo_stamp.proofs.Sets.{covers_sets, covered_set}
use Rattle.geo_stamp.proofs.retired.RetiredLattice.covers.Goals as goal

pub returns-then-not-self-i : goal.returns-then-not-self-i
returns-then-not-self-i c = (
  λ h. absurd (true≢false (sym h)),
  λ h.
      let e = (λ i. set_joined (c.self.view_is i) (c.other.view_is i)) ∙ h ∙ sym c.self.view_is in
      absurd (true≢false (sym (covered_set c.self.inside.sites c.other.inside.sites c.loop-i.i e c.if-other-i.true) ∙ c.if-not-self-i.true)),
)

pub returns : goal.returns
returns c = (
  λ _.
      sym (λ i. set_joined (c.self.view_is i) (c.other.view_is i))
      ∙ covers_sets c.self.inside.sites c.other.inside.sites c.self.invariant c.other.invariant (λ k lt. c.loop-i.invariant k (omega (arith, lt, c.loop-i-test.false)))
      ∙ c.self.view_is,
  λ _. refl,
)

use Rattle.std.proofs.Common.{arith, refl, sym, ◌∙◌, true≢false}
use Rattle.geo_stamp.specs.Vectors.{vector_joined}
use Rattle.geo_stamp.proofs.Joins.{covers_entries, covered_entry, covered_length}
use Rattle.geo_stamp.proofs.vector.VectorLattice.covers.Goals as goal

pub returns-then-self-other : goal.returns-then-self-other
returns-then-self-other c = (
  λ h. absurd (true≢false (sym h)),
  λ h.
      let e = (λ i. vector_joined (c.self.view_is i) (c.other.view_is i)) ∙ h ∙ sym c.self.view_is in
      let le = covered_length c.self.inside.sites c.other.inside.sites c.self.inside.entries c.other.inside.entries c.self.invariant c.other.invariant e in
      let lt = c.if-self-other.true in
      absurd (omega (arith, le, lt)),
)

pub returns-then-self-i : goal.returns-then-self-i
returns-then-self-i c = (
  λ h. absurd (true≢false (sym h)),
  λ h.
      let e = (λ i. vector_joined (c.self.view_is i) (c.other.view_is i)) ∙ h ∙ sym c.self.view_is in
      let le = covered_entry c.self.inside.sites c.other.inside.sites c.loop-i.i c.self.inside.entries c.other.inside.entries c.self.invariant c.other.invariant e in
      let lt = c.if-self-i.true in
      absurd (omega (arith, le, lt)),
)

pub returns : goal.returns
returns c = (
  λ _.
      let le = c.if-self-other.false in
      sym (λ i. vector_joined (c.self.view_is i) (c.other.view_is i))
      ∙ covers_entries c.self.inside.sites c.other.inside.sites c.self.inside.entries c.other.inside.entries c.self.invariant c.other.invariant (omega (arith, le)) (λ k lt. c.loop-i.invariant k (omega arith))
      ∙ c.self.view_is,
  λ _. refl,
)

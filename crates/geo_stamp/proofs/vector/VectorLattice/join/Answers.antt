use Rattle.std.proofs.Common.{arith, ◌∙◌}
use Rattle.geo_stamp.specs.Vectors.{vector_joined}
use Rattle.geo_stamp.proofs.Joins.{all_joined, joined_is_vector, joined_fronts}
use Rattle.geo_stamp.proofs.vector.VectorLattice.join.Goals as goal

pub invariant_of-self : goal.invariant_of-self
invariant_of-self c =
    let inv = c.loop-i.invariant in
    let each = all_joined c.self.inside.sites c.other.inside.sites c.loop-i.i c.self.inside.entries c.other.inside.entries c.loop-i.self-inside.entries c.self.invariant c.other.invariant (omega arith) inv.done inv.rest in
    let s = inv.sites in
    let lt = c.if-self-other.true in
    joined_is_vector c.self.inside.sites c.other.inside.sites c.other.inside.sites c.self.inside.entries c.other.inside.entries c.loop-i.self-inside.entries c.self.invariant c.other.invariant inv.many (omega (arith, s, lt)) each

pub invariant_of-self-else-self-other : goal.invariant_of-self-else-self-other
invariant_of-self-else-self-other c =
    let inv = c.loop-i.invariant in
    let each = all_joined c.self.inside.sites c.other.inside.sites c.loop-i.i c.self.inside.entries c.other.inside.entries c.loop-i.self-inside.entries c.self.invariant c.other.invariant (omega arith) inv.done inv.rest in
    let s = inv.sites in
    let le = c.if-self-other.false in
    joined_is_vector c.self.inside.sites c.other.inside.sites c.loop-i.self-inside.sites c.self.inside.entries c.other.inside.entries c.loop-i.self-inside.entries c.self.invariant c.other.invariant inv.many (omega (arith, s, le)) each

pub returns-then-self-other : goal.returns-then-self-other
returns-then-self-other c =
    let inv = c.loop-i.invariant in
    let each = all_joined c.self.inside.sites c.other.inside.sites c.loop-i.i c.self.inside.entries c.other.inside.entries c.loop-i.self-inside.entries c.self.invariant c.other.invariant (omega arith) inv.done inv.rest in
    let s = inv.sites in
    let lt = c.if-self-other.true in
    joined_fronts c.self.inside.sites c.other.inside.sites c.other.inside.sites c.self.inside.entries c.other.inside.entries c.loop-i.self-inside.entries c.self.invariant c.other.invariant inv.many (omega (arith, s, lt)) each
    ∙ (λ i. vector_joined (c.self.view_is i) (c.other.view_is i))

pub returns-else-self-other : goal.returns-else-self-other
returns-else-self-other c =
    let inv = c.loop-i.invariant in
    let each = all_joined c.self.inside.sites c.other.inside.sites c.loop-i.i c.self.inside.entries c.other.inside.entries c.loop-i.self-inside.entries c.self.invariant c.other.invariant (omega arith) inv.done inv.rest in
    let s = inv.sites in
    let le = c.if-self-other.false in
    joined_fronts c.self.inside.sites c.other.inside.sites c.loop-i.self-inside.sites c.self.inside.entries c.other.inside.entries c.loop-i.self-inside.entries c.self.invariant c.other.invariant inv.many (omega (arith, s, le)) each
    ∙ (λ i. vector_joined (c.self.view_is i) (c.other.view_is i))

use Rattle.std.proofs.Common.{◌≡◌, ◌||◌, false, get_or, arith, sym, ap, ◌∙◌}
use Rattle.std.proofs.lemmas.List.{length-set}
use Rattle.geo_stamp.specs.Retired.{set_joined}
use Rattle.geo_stamp.proofs.Sets.{is_union, union_step, union_rest}
use Rattle.geo_stamp.proofs.retired.RetiredLattice.join.Goals.{then-self-i, else-self-i}
use Rattle.geo_stamp.proofs.retired.RetiredLattice.join.Goals as goal

pub loop-i-preserved : goal.loop-i-preserved
loop-i-preserved c =
    let inv = c.loop-i.invariant in
    let i = c.loop-i.i in
    let xs = c.self.inside.sites in
    let ys = c.other.inside.sites in
    let zs = c.loop-i.self-inside.sites in
    let was = inv.rest i (omega arith) in
    let here : c.if-self-i.self ≡ (get_or xs i false || get_or ys i false) = elim c.if-self-i.branch [
      | then-self-i w ↦ w.self-is ∙ w.if-self-i.true ∙ sym (ap (λ b. b || get_or ys i false) (sym was ∙ w.if-self-i.true))
      | else-self-i w ↦ w.self-is ∙ sym (ap (λ b. b || get_or ys i false) (sym was ∙ w.if-self-i.false))
    ] in
    record {
      many = length-set zs i c.if-self-i.self ∙ inv.many;
      done = union_step i xs ys zs c.if-self-i.self (omega (arith, inv.many, c.loop-i-test.true)) here inv.done;
      rest = union_rest i xs zs c.if-self-i.self inv.rest;
    }

pub returns : goal.returns
returns c =
    let inv = c.loop-i.invariant in
    is_union c.self.inside.sites c.other.inside.sites c.loop-i.self-inside.sites c.self.invariant c.other.invariant inv.many (λ k lt. inv.done k (omega (arith, lt, c.loop-i-test.false)))
    ∙ (λ i. set_joined (c.self.view_is i) (c.other.view_is i))

use Rattle.std.proofs.Common.{◌≡◌, ◌-◌, cond, false, get_or, length, arith, ap, sym, ◌∙◌}
use Rattle.geo_stamp.specs.Retired.{set_bits}
use Rattle.geo_stamp.proofs.Sets.{bits_none, bits_room, bits_step, bits_whole}
use Rattle.geo_stamp.proofs.retired.Retired.bits.Goals.{then-self-before, else-self-before}
use Rattle.geo_stamp.proofs.retired.Retired.bits.Goals as goal

pub loop-before-init : goal.loop-before-init
loop-before-init c = bits_none c.self.inside.sites c.self.invariant

pub overflow_mul-bits : goal.overflow_mul-bits
overflow_mul-bits c =
    let room = bits_room (16 - c.loop-before.before) c.self.inside.sites c.self.invariant in
    omega (arith, room, c.loop-before.invariant)

pub overflow_add-bits : goal.overflow_add-bits
overflow_add-bits c =
    let room = bits_room (16 - c.loop-before.before) c.self.inside.sites c.self.invariant in
    elim c.if-self-before.branch [
      | then-self-before w ↦ omega (arith, room, c.loop-before.invariant, w.bit-is)
      | else-self-before w ↦ omega (arith, room, c.loop-before.invariant, w.bit-is)
    ]

pub loop-before-preserved : goal.loop-before-preserved
loop-before-preserved c =
    let xs = c.self.inside.sites in
    let i = c.loop-before.before in
    let bit : c.if-self-before.bit ≡ cond (get_or xs (15 - i) false) 1 0 = elim c.if-self-before.branch [
      | then-self-before w ↦ w.bit-is ∙ ap (λ b. cond b 1 0) (sym w.if-self-before.true)
      | else-self-before w ↦ w.bit-is ∙ ap (λ b. cond b 1 0) (sym w.if-self-before.false)
    ] in
    bits_step xs i c.if-self-before.bit c.loop-before.bits c.self.invariant c.loop-before-test.true c.loop-before.invariant bit

pub returns : goal.returns
returns c =
    let xs = c.self.inside.sites in
    let is : c.loop-before.bits ≡ set_bits xs = c.loop-before.invariant ∙ bits_whole xs c.loop-before.before (omega (arith, c.loop-before-test.false)) in
    let room = bits_room 0 xs c.self.invariant in
    record { bits = is ∙ ap set_bits c.self.view_is; range = omega (arith, is, room); many = ap length (sym c.self.view_is) ∙ c.self.invariant }

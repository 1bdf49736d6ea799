use Rattle.std.proofs.Common.{◌≡◌, ◌≤◌, ◌<◌, sym, subst, arith, inl, inr}
use Rattle.std.proofs.lemmas.Bool.{cases_eq}
use Rattle.geo_slabs.specs.Storage.{chunk_bytes}
use Rattle.geo_slabs.proofs.slabs.class_of.Goals as goal

pub loop-class-init : goal.loop-class-init
loop-class-init c = (omega arith, λ other lt. absurd (omega (arith, lt)))

pub loop-class-preserved : goal.loop-class-preserved
loop-class-preserved c =
    let test = c.loop-class-test.true in
    let small : chunk_bytes c.loop-class.class < c.args.length = subst (λ n. n < c.args.length) c.chunk_size.ensures c.if-chunk_size-length.true in (
      omega (arith, test),
      λ other lt. elim (cases_eq other c.loop-class.class) [
        | inl same ↦ subst (λ n. chunk_bytes n < c.args.length) (sym same) small
        | inr other_one ↦ c.loop-class.invariant.1 other (omega (arith, lt, other_one))
      ],
    )

pub returns-else-chunk_size-length : goal.returns-else-chunk_size-length
returns-else-chunk_size-length c =
    let le = c.loop-class.invariant.0 in
    let room = c.if-chunk_size-length.false in
    let size = c.chunk_size.ensures in
    (omega (arith, le), omega (arith, room, size), c.loop-class.invariant.1)

pub returns-after-loop-class : goal.returns-after-loop-class
returns-after-loop-class c =
    let le = c.loop-class.invariant.0 in
    let ge = c.loop-class-test.false in
    let last : c.loop-class.class ≡ 14 = omega (arith, le, ge) in
    let fits = c.requires in
    (omega (arith, le), subst (λ n. c.args.length ≤ chunk_bytes n) (sym last) fits, c.loop-class.invariant.1)

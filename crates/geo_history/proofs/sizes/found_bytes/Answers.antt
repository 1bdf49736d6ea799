use Rattle.std.proofs.Common.{◌≡◌, ◌+◌, ap, length, arith}
use Rattle.geo_history.specs.Sizes.{capped, found_bytes}
use Rattle.geo_history.proofs.Counting.{sum_more, sum_all}
use Rattle.geo_history.proofs.sizes.found_bytes.Goals as goal

pub loop-one-preserved : goal.loop-one-preserved
loop-one-preserved c =
    let key : length c.bytes.result.now ≡ length c.one-item.result.key = ap length c.bytes.ensures.bytes in
    let size : 256 + (length c.bytes.result.now + c.len.result) ≡ found_bytes c.one-item.result = omega (arith, key, c.len.ensures) in
    let next : c.grown-sum.result ≡ capped (c.loop-one.sum + (256 + (length c.bytes.result.now + c.len.result))) = omega (arith, c.grown-part.ensures, c.grown-sum.ensures) in
    sum_more found_bytes c.args.found.now c.loop-one.one-index c.one-item.result 0 c.loop-one.sum c.grown-sum.result (256 + (length c.bytes.result.now + c.len.result)) (omega arith) c.one-item.is size c.loop-one.invariant next

pub returns : goal.returns
returns c =
    let all = sum_all found_bytes c.args.found.now c.loop-one.one-index 0 c.loop-one.sum (omega arith) c.loop-one.invariant in
    omega (arith, all)

use Rattle.std.proofs.Common.{◌≡◌, ◌+◌, ap, length, arith}
use Rattle.geo_history.specs.Sizes.{key_bytes, list_size}
use Rattle.geo_history.proofs.Counting.{sum_more, sum_all}
use Rattle.geo_history.proofs.sizes.keys_bytes.Goals as goal

pub loop-key-preserved : goal.loop-key-preserved
loop-key-preserved c =
    let length_is = ap length c.bytes.ensures.bytes in
    let size : 48 + length c.bytes.result.now ≡ key_bytes c.key-item.result = ap (λ n. 48 + n) length_is in
    sum_more key_bytes c.args.keys.now c.loop-key.key-index c.key-item.result list_size c.loop-key.sum c.grown-sum.result (48 + length c.bytes.result.now) (omega arith) c.key-item.is size c.loop-key.invariant c.grown-sum.ensures

pub returns : goal.returns
returns c = sum_all key_bytes c.args.keys.now c.loop-key.key-index list_size c.loop-key.sum (omega arith) c.loop-key.invariant

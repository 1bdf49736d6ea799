use Rattle.std.proofs.Common.{◌≡◌, ◌+◌, ap, length, arith}
use Rattle.geo_history.specs.Sizes.{parcel_size, record_bytes}
use Rattle.geo_history.proofs.Counting.{sum_more, sum_all}
use Rattle.geo_history.proofs.sizes.records_bytes.Goals as goal

pub loop-entry-preserved : goal.loop-entry-preserved
loop-entry-preserved c =
    let length_is = ap length c.bytes.ensures.bytes in
    let size : 160 + length c.bytes.result.now ≡ record_bytes c.entry-item.result = ap (λ n. 160 + n) length_is in
    sum_more record_bytes c.args.records.now c.loop-entry.entry-index c.entry-item.result parcel_size c.loop-entry.sum c.grown-sum.result (160 + length c.bytes.result.now) (omega arith) c.entry-item.is size c.loop-entry.invariant c.grown-sum.ensures

pub returns : goal.returns
returns c = sum_all record_bytes c.args.records.now c.loop-entry.entry-index parcel_size c.loop-entry.sum (omega arith) c.loop-entry.invariant

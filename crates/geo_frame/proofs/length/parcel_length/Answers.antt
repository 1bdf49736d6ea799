use Rattle.std.proofs.Common.{arith, ap, length, take}
use Rattle.std.specs.List.{flat_map}
use Rattle.std.proofs.lemmas.List.{take_all}
use Rattle.std.proofs.lemmas.List.Folds.{length-flat_map-take}
use Rattle.geo_frame.specs.Spelling.{record_bytes}
use Rattle.geo_frame.proofs.Lengths.{frame_length}
use Rattle.geo_frame.proofs.length.parcel_length.Goals as goal

pub returns-then-size-gt-LONGEST_FRAME : goal.returns-then-size-gt-LONGEST_FRAME
returns-then-size-gt-LONGEST_FRAME c =
    let rs = c.as_slice-record-items.result.now in
    let i = c.loop-record.record-index in
    omega (
      arith,
      c.if-size-gt-LONGEST_FRAME.true,
      frame_length c.args.parcel.now,
      length-flat_map-take record_bytes rs i c.record-item.result c.loop-record-test.true,
      c.loop-record.invariant.size,
      c.record_length-size.ensures.exact,
      ap (λ e. length (record_bytes e)) c.record-item.is,
      ap (λ rs. length (flat_map record_bytes (take i rs))) c.as_slice-record-items.ensures,
      ap (λ rs. length (flat_map record_bytes rs)) c.as_slice-record-items.ensures,
    )

pub returns : goal.returns
returns c =
    let p = c.args.parcel.now in
    let i = c.loop-record.record-index in
    (omega (arith, frame_length p, c.loop-record.invariant.size, ap (λ rs. length (flat_map record_bytes rs)) (take_all i p.records (omega (arith, c.loop-record-test.false, ap length c.as_slice-record-items.ensures)))), c.loop-record.invariant.most)

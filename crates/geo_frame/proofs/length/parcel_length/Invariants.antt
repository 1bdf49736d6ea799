use Rattle.std.proofs.Common.{◌≡◌, ◌+◌, ◌*◌, ◌≤◌, length, take}
use Rattle.std.specs.List.{flat_map}
use Rattle.geo_frame.specs.Spelling.{record_bytes}
use Rattle.geo_frame.proofs.length.parcel_length.Given as goal

abbrev pub invariant-loop-record : goal.invariant-loop-record
invariant-loop-record l = record {
  size : l.size ≡ 66 + 8 * (length l.parcel.base + length l.parcel.upto) + length (flat_map record_bytes (take l.record-index l.parcel.records));
  most : l.size ≤ 1073741824;
}

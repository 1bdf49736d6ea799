use Rattle.std.proofs.Common.{◌≡◌, ◌+◌, sum_by, take}
use Rattle.geo_history.specs.Sizes.{capped, record_bytes, parcel_size}
use Rattle.geo_history.proofs.sizes.records_bytes.Given as goal

abbrev pub invariant-loop-entry : goal.invariant-loop-entry
invariant-loop-entry l = l.sum ≡ capped (parcel_size + sum_by record_bytes (take l.entry-index l.records))

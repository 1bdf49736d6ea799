use Rattle.std.proofs.Common.{◌≡◌, take}
use Rattle.geo_delta.proofs.parcel.copied.Given as goal

abbrev pub invariant-loop-key : goal.invariant-loop-key
invariant-loop-key l = l.all.items ≡ take l.key-index l.records

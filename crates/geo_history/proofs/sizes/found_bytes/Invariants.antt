use Rattle.std.proofs.Common.{◌≡◌, ◌+◌, sum_by, take}
use Rattle.geo_history.specs.Sizes.{capped, found_bytes}
use Rattle.geo_history.proofs.sizes.found_bytes.Given as goal

abbrev pub invariant-loop-one : goal.invariant-loop-one
invariant-loop-one l = l.sum ≡ capped (0 + sum_by found_bytes (take l.one-index l.found))

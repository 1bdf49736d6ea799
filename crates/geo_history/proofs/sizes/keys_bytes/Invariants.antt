use Rattle.std.proofs.Common.{◌≡◌, ◌+◌, sum_by, take}
use Rattle.geo_history.specs.Sizes.{capped, key_bytes, list_size}
use Rattle.geo_history.proofs.sizes.keys_bytes.Given as goal

abbrev pub invariant-loop-key : goal.invariant-loop-key
invariant-loop-key l = l.sum ≡ capped (list_size + sum_by key_bytes (take l.key-index l.keys))

use Rattle.std.proofs.Common.{◌≡◌, ◌++◌, take}
use Rattle.std.specs.List.{flat_map}
use Rattle.geo_cluster.specs.Prints.{hex_byte}
use Rattle.geo_cluster.proofs.script.listing.push_hex.Given as goal

abbrev pub invariant-loop-byte : goal.invariant-loop-byte
invariant-loop-byte l = l.out.items ≡ l.initial.out.items ++ flat_map hex_byte (take l.byte-index l.bytes)

use Rattle.std.proofs.Common.{◌≡◌, length, take}
use Rattle.geo_stamp.proofs.acks.Acks.copied.Given as goal

abbrev pub invariant-loop-index : goal.invariant-loop-index
invariant-loop-index l = (length l.rows ≡ 16) × (take l.index l.rows ≡ take l.index l.self-inside.rows)

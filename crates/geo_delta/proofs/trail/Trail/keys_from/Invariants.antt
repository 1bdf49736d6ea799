use Rattle.std.proofs.Common.{◌≡◌, map, take, drop}
use Rattle.std.specs.List.{All}
use Rattle.geo_delta.specs.Heads.{IsBehind, keys_under}
use Rattle.geo_delta.proofs.Spans.{key_of}
use Rattle.geo_delta.proofs.trail.Trail.keys_from.Given as goal

abbrev pub invariant-loop-i : goal.invariant-loop-i
invariant-loop-i l = record {
  keys : keys_under l.keys.items ≡ map key_of (drop l.first (take l.i l.self-inside.ring.items));
  heads : All (IsBehind l.begin) l.keys.items;
}

use Rattle.std.proofs.Common.{◌≡◌, ◌++◌, take}
use Rattle.std.specs.List.{flat_map}
use Rattle.geo_frame.specs.Spelling.{eight}
use Rattle.geo_frame.proofs.push.push_vector.Given as goal

abbrev pub invariant-loop-before : goal.invariant-loop-before
invariant-loop-before l = l.out.items ≡ l.initial.out.items ++ flat_map eight (take l.before l.vector)

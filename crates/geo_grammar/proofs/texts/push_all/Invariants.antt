use Rattle.std.proofs.Common.{◌≡◌, ◌++◌, take}
use Rattle.std.specs.List.{flat_map}
use Rattle.geo_grammar.specs.Replies.{found_bytes}
use Rattle.geo_grammar.proofs.texts.push_all.Given as goal

abbrev pub invariant-loop-found : goal.invariant-loop-found
invariant-loop-found l = l.out.items ≡ l.initial.out.items ++ flat_map found_bytes (take l.found-index l.values)

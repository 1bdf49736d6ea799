use Rattle.std.proofs.Common.{◌≡◌, true, take}
use Rattle.std.specs.List.{list_all}
use Rattle.geo_delta.specs.Ranges.{is_ranged}
use Rattle.geo_delta.proofs.ranges.records_are_ranged.Given as goal

abbrev pub invariant-loop-entry : goal.invariant-loop-entry
invariant-loop-entry l = list_all is_ranged (take l.entry-index l.records) ≡ true

use Rattle.std.proofs.Common.{take}
use Rattle.std.specs.List.{All}
use Rattle.geo_audit.specs.Openings.{OpensEmpty}
use Rattle.geo_audit.proofs.opening.later_of.Given as goal

-- those before begin so
abbrev pub invariant-loop-history : goal.invariant-loop-history
invariant-loop-history l = All OpensEmpty (take l.history-index l.histories)

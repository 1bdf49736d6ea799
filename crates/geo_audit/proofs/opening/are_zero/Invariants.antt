use Rattle.std.proofs.Common.{◌≡◌, take}
use Rattle.std.specs.List.{All}
use Rattle.geo_audit.proofs.opening.are_zero.Given as goal

-- those before are zero
abbrev pub invariant-loop-count : goal.invariant-loop-count
invariant-loop-count l = All (λ n. n ≡ 0) (take l.count-index l.counts)

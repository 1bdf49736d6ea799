use Rattle.std.proofs.Common.{◌≡◌, take, map}
use Rattle.geo_audit.specs.Runs.{setup_of}
use Rattle.geo_audit.proofs.play.setups_of.Given as goal

-- those before were told so
abbrev pub invariant-loop-history : goal.invariant-loop-history
invariant-loop-history l = l.setups.items ≡ map setup_of (take l.history-index l.histories)

use Rattle.std.proofs.Common.{◌≡◌, ◌+◌, drop}
use Rattle.geo_world.specs.Setups.{are_numbered}
use Rattle.geo_world.proofs.open.are_good.Given as goal

-- what is left decides
abbrev pub invariant-loop-index : goal.invariant-loop-index
invariant-loop-index l = are_numbered l.sites 1 l.setups ≡ are_numbered l.sites (l.index + 1) (drop l.index l.setups)

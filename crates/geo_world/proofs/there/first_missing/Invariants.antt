use Rattle.std.proofs.Common.{◌≤◌}
use Rattle.geo_world.proofs.Coming.{AreThere}
use Rattle.geo_world.proofs.there.first_missing.Given as goal

abbrev pub invariant-loop-index : goal.invariant-loop-index
invariant-loop-index l = record {
  there : AreThere l.sites l.events l.index l.parcels;
  few : l.parcels ≤ l.index;
}

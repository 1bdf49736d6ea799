use Rattle.std.proofs.Common.{◌≡◌, length}
use Rattle.geo_cluster.specs.Effects.{AreTold}
use Rattle.geo_cluster.proofs.script.setups.told.Given as goal

abbrev pub invariant-loop-index : goal.invariant-loop-index
invariant-loop-index l = record {
  many : length l.setups.items ≡ l.index;
  told : AreTold 1 l.sites l.pages l.max l.reap l.setups.items;
}

use Rattle.std.proofs.Common.{◌≡◌, length, All}
use Rattle.geo_cluster.specs.Connections.{IsNew}
use Rattle.geo_cluster.proofs.script.setups.connections.Given as goal

abbrev pub invariant-loop-site : goal.invariant-loop-site
invariant-loop-site l = record {
  many : length l.all.items ≡ l._site;
  new : All IsNew l.all.items;
}

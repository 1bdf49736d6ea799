use Rattle.std.proofs.Common.{◌≡◌, length, []}
use Rattle.geo_world.specs.Setups.{start}
use Rattle.geo_plain.specs.Plain.{Meets}
use Rattle.geo_plain.proofs.known.sites_without.Given as goal

abbrev pub invariant-loop-setup : goal.invariant-loop-setup
invariant-loop-setup l = record {
  many : length l.all.items ≡ l.setup-index;
  meets : Meets l.all.items [] (start l.setups);
}

use Rattle.std.proofs.Common.{◌≤◌, take}
use Rattle.geo_versions.specs.Maps.{floor_in, record_in}
use Rattle.geo_values.specs.Stock as stocks
use Rattle.geo_values.specs.Held.{stock_in, count_in}
use Rattle.geo_site.specs.Machine.{settled}
use Rattle.geo_site.proofs.Outdated.{map_joined}
use Rattle.geo_site.proofs.exchange.drop_outdated.Given as goal

abbrev pub invariant-loop-key : goal.invariant-loop-key
invariant-loop-key l =
    (count_in l.values ≤ count_in l.fn.values)
    × stocks.Same (settled (map_joined (floor_in l.versions) (record_in l.versions) (take l.key-index l.records)) (stock_in l.fn.values)) (stock_in l.values)

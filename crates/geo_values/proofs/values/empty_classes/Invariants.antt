use Rattle.std.proofs.Common.{◌≡◌, replicate}
use Rattle.geo_values.specs.Stock.{no_items}
use Rattle.geo_values.proofs.values.empty_classes.Given as goal

abbrev pub invariant-loop : goal.invariant-loop
invariant-loop l = l.all.items ≡ replicate l.counter no_items

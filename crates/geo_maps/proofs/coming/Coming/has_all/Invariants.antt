use Rattle.geo_maps.specs.Maps.{HasAll}
use Rattle.geo_maps.proofs.coming.Coming.has_all.Given as goal

-- each place that was passed stands where it came
abbrev pub invariant-loop-place : goal.invariant-loop-place
invariant-loop-place l = HasAll l.self.order.items l.self.came.items l.place

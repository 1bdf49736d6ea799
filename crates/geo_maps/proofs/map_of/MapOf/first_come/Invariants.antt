use Rattle.std.proofs.Common.{◌-◌, length}
use Rattle.geo_maps.proofs.map_of.MapOf.first_come.Given as goal

abbrev pub decreases-loop-index : goal.decreases-loop-index
decreases-loop-index g l = length l.column.coming.order.items - l.index

use Rattle.std.proofs.Common.{◌≡◌, take}
use Rattle.geo_lattice.proofs.items.ItemsTwin.twin.Given as goal

abbrev pub invariant-loop-item : goal.invariant-loop-item
invariant-loop-item g l = l.items.items ≡ take l.item-index l.item-items

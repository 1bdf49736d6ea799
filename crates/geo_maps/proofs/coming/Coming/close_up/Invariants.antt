use Rattle.std.proofs.Common.{◌≡◌, ◌≤◌, length}
use Rattle.geo_maps.proofs.coming.Coming.close_up.Given as goal

-- what is kept stands before what is looked at
abbrev pub invariant-loop-index : goal.invariant-loop-index
invariant-loop-index l = record {
  kept : l.kept ≤ l.index;
  all : length l.self.order.items ≡ l.index-end;
}

use Rattle.std.proofs.Common.{◌≡◌, ◌≤◌, length}
use Rattle.geo_maps.proofs.coming.Coming.leave_out.Given as goal

-- what is kept stands before what is looked at
abbrev pub invariant-loop-place : goal.invariant-loop-place
invariant-loop-place g l = record {
  kept : l.kept ≤ l.place;
  all : length l.self.came.items ≡ l.place-end;
}

use Rattle.std.proofs.Common.{◌≡◌, length}
use Rattle.geo_slabs.specs.Chunks.{AllReserved}
use Rattle.geo_slabs.proofs.slabs.reserved.Given as goal

abbrev pub invariant-loop : goal.invariant-loop
invariant-loop l = (length l.all.items ≡ l.counter) × AllReserved l.all.items

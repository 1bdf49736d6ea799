use Rattle.std.proofs.Common.{◌≡◌, ◌+◌, length}
use Rattle.geo_slabs.specs.Chunks.{AllReserved}
use Rattle.geo_slabs.specs.Storage.{first_classes}
use Rattle.geo_slabs.proofs.slabs.all_opened.Given as goal

abbrev pub invariant-loop-class : goal.invariant-loop-class
invariant-loop-class l = (l.all.items ≡ first_classes l.pages l.class) × (length l.spare.items + l.class ≡ l.pages) × AllReserved l.spare.items

use Rattle.std.proofs.Common.{◌≡◌, take}
use Rattle.geo_maps.proofs.Listing.{shown_of}
use Rattle.geo_values.specs.Held.{by_key}
use Rattle.geo_values.proofs.Digests.{shows}
use Rattle.geo_values.proofs.parts.Parts.held.Given as goal

abbrev pub invariant-loop-index : goal.invariant-loop-index
invariant-loop-index l = by_key l.all.items ≡ shown_of (shows l.self.slabs) (take l.index l.self.items.entries)

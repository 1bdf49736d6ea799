use Rattle.std.proofs.Common.{◌≡◌, take, map}
use Rattle.geo_maps.proofs.Listing.{shown_of}
use Rattle.geo_maps.proofs.Showing.{plain, kept}
use Rattle.geo_maps.proofs.map_of.MapOf.standing.Given as goal

abbrev pub invariant-loop-i : goal.invariant-loop-i
invariant-loop-i g l = map plain l.all.items ≡ shown_of (kept (g.S.Show.shown l.show)) (take l.i l.self-inside.entries.entries)

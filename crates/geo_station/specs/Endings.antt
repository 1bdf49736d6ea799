-- How a seat's calls in a history end.
use Rattle.std.specs.Prelude.{◌≡◌, ◌≢◌, ◌⊎◌, List}
use Rattle.geo_station.specs.declared.call.Call.{Call}
use Rattle.geo_station.specs.declared.fits.Ending.{Ending}
use Rattle.geo_station.specs.declared.fits.Ending.TheVariants.{Whole, Tail, More, Other}
use Rattle.geo_station.specs.Seats.{EndsWith}

abbrev pub EndsSo : Ending → List Call → List Call → Type 0
EndsSo Whole all kept = all ≡ kept
EndsSo Tail all kept = EndsWith all kept × (all ≢ kept)
EndsSo More all kept = EndsWith kept all × (all ≢ kept)
EndsSo Other all kept = EndsWith all kept ⊎ EndsWith kept all → ⊥

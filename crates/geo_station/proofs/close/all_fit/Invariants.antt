use Rattle.std.proofs.Common.{take}
use Rattle.std.specs.List.{All}
use Rattle.geo_history.specs.Stories.{story_in}
use Rattle.geo_station.specs.Seats.{FitsIn}
use Rattle.geo_station.proofs.close.all_fit.Given as goal

-- those before fit
abbrev pub invariant-loop-seat : goal.invariant-loop-seat
invariant-loop-seat g l = All (FitsIn (story_in l.kept).opening (story_in l.kept).steps) (take l.seat-index l.seats)

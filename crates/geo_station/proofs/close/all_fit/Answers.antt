use Rattle.std.proofs.Common.{arith, subst}
use Rattle.std.specs.List.{All}
use Rattle.std.proofs.lemmas.List.{take_all}
use Rattle.std.proofs.lemmas.List.Elements.{All-more}
use Rattle.geo_history.specs.Stories.{story_in}
use Rattle.geo_station.specs.Seats.{FitsIn}
use Rattle.geo_station.proofs.close.all_fit.Goals as goal

pub loop-seat-preserved : goal.loop-seat-preserved
loop-seat-preserved g c = All-more (FitsIn (story_in c.args.kept.now).opening (story_in c.args.kept.now).steps) c.args.seats.now c.loop-seat.seat-index _ (omega arith) c.loop-seat.invariant (subst (FitsIn (story_in c.args.kept.now).opening (story_in c.args.kept.now).steps) c.seat-item.is c.if-not-fits.ensures)

pub returns : goal.returns
returns g c = subst (All (FitsIn (story_in c.args.kept.now).opening (story_in c.args.kept.now).steps)) (take_all c.loop-seat.seat-index c.args.seats.now (omega arith)) c.loop-seat.invariant

use Rattle.std.proofs.Common.{ap}
use Rattle.geo_station.proofs.Receiving.{retirement_of}
use Rattle.geo_station.proofs.station.Station.retire.Goals as goal

pub returns-clause-retired : goal.returns-clause-retired
returns-clause-retired g c = retirement_of _ _ _ _ _ (ap (λ s. s.mark.number) c.seat.view_is) c.retire-done.ensures.does

use Rattle.std.proofs.Common.{ap}
use Rattle.geo_station.proofs.Receiving.{filling_of}
use Rattle.geo_station.proofs.station.Station.fill.Goals as goal

pub returns-clause-filled : goal.returns-clause-filled
returns-clause-filled g c = filling_of _ _ _ _ _ _ _ (ap (λ s. s.mark.number) c.seat.view_is) c.know_digest.ensures c.fill-done.ensures.does

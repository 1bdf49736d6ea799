use Rattle.geo_server.proofs.Hearing.{kept_out}
use Rattle.geo_server.proofs.duty.hear.Goals as goal

pub returns : goal.returns
returns g c = kept_out c.receive.ensures.all (λ l. l.link.seat.tally) (record {
  put = λ one p two h. h;
  got = λ one p two h. h;
  unput = λ one p e two h. h;
  missed = λ one e two h. h;
})

-- A tally's seat stays of its tally.
use Rattle.std.proofs.Common.{◌≡◌, Result, Ok, Err, IfOk, IfErr, ap, ⊎_elim}
use Rattle.geo_tally.specs.Seats.{SeatView}
use Rattle.geo_link.specs.declared.fault.LinkError.{LinkError}
use Rattle.geo_link.specs.declared.fault.LinkError.TheVariants.{Closed, Frame, Io, Memory, TooLong}
use Rattle.geo_link.specs.Tallies.{CountsError}

tally_after : (e : LinkError) (old new : SeatView) → CountsError e old new → new.tally ≡ old.tally
tally_after Closed old new h = ap (λ (s : SeatView). s.tally) h
tally_after (Frame fault) old new h = ⊎_elim (λ x. ap (λ (s : SeatView). s.tally) x) (λ x. ap (λ (s : SeatView). s.tally) x.1) h
tally_after Io old new h = ap (λ (s : SeatView). s.tally) h
tally_after Memory old new h = ap (λ (s : SeatView). s.tally) h
tally_after TooLong old new h = ap (λ (s : SeatView). s.tally) h

pub tally_stays : {T : Type 0} (r : Result T LinkError) (P : T → Type 0) (Q : LinkError → Type 0) (old new : SeatView) → IfOk r (λ x. P x × (new ≡ old)) → IfErr r (λ e. Q e × CountsError e old new) → new.tally ≡ old.tally
tally_stays (Ok x) P Q old new h k = ap (λ (s : SeatView). s.tally) h.1
tally_stays (Err e) P Q old new h k = tally_after e old new k.1

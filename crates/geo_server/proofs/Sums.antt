-- A seat of a tally that counts a request stays of its tally.
use Rattle.std.proofs.Common.{◌≡◌, inl, inr, ℕ, Option, None, Some, IfSome, IfNone, ap}
use Rattle.geo_requests.specs.declared.request.Request.{Request}
use Rattle.geo_requests.specs.declared.reply.Reply.{Reply}
use Rattle.geo_session.specs.Seats.{Asker, AnswersCounted, RefusesCounted, CountsOne}
use Rattle.geo_station.specs.declared.refusal.SeatSpent.{SeatSpent}
use Rattle.geo_tally.specs.Seats.{SeatView}
use Rattle.geo_tally.specs.declared.counter.Counter.{Counter}
use Rattle.geo_tally.specs.declared.counter.Counter.TheVariants.{Requests}

pub counts_one : (counter : Counter) (old new : SeatView) → CountsOne counter old new → new.tally ≡ old.tally
counts_one counter old new (inl one) = ap (λ (s : SeatView). s.tally) one
counts_one counter old new (inr spent) = ap (λ (s : SeatView). s.tally) spent.1

pub tally_kept : (shows : ℕ → Type 0) (reply : Option Reply) (request : Request) (old new : Asker)
    → IfSome reply (λ r. AnswersCounted shows old new request r)
    → IfNone reply ((spent : SeatSpent) × RefusesCounted shows old new request spent) → new.counts.tally ≡ old.counts.tally
tally_kept shows (Some r) request old new answers refuses = counts_one Requests old.counts new.counts answers.counted
tally_kept shows None request old new answers refuses = counts_one Requests old.counts new.counts refuses.1.counted

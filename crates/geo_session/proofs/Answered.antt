-- What is told beside an answer.
use Rattle.std.proofs.Common.{Option, None, Some, IfSome, IfNone}
use Rattle.geo_requests.specs.declared.reply.Reply.{Reply}
use Rattle.geo_station.specs.declared.refusal.SeatSpent.{SeatSpent}

pub answer_beside : (same : Type 0) (answers : Reply → Type 0) (reply : Option Reply) → same → IfSome reply answers
    → IfSome reply (λ r. same × answers r)
answer_beside same answers (Some r) told is = (told, is)
answer_beside same answers None told is = is

pub refusal_beside : (same : Type 0) (refuses : SeatSpent → Type 0) (reply : Option Reply) → same
    → IfNone reply ((spent : SeatSpent) × refuses spent) → IfNone reply (same × (spent : SeatSpent) × refuses spent)
refusal_beside same refuses (Some r) told is = is
refusal_beside same refuses None told is = (told, is.0, is.1)

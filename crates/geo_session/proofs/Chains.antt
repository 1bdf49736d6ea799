-- What a connection is told stands in the one history of its site.
use Rattle.std.proofs.Common.{◌≡◌, ◌⊎◌, inl, inr, ℕ, Bool, true, false, List, [], ◌∷◌, ◌++◌, Ok, refl, sym, ap, subst, ◌∙◌, append_assoc, append-nil}
use Rattle.geo_grammar.specs.declared.fault.Fault.{Fault}
use Rattle.geo_requests.specs.declared.reply.Reply.{Reply}
use Rattle.geo_requests.specs.declared.reply.Reply.TheVariants.{OutOfMemory}
use Rattle.geo_requests.specs.declared.request.Request.{Request}
use Rattle.geo_history.specs.declared.step.Step.{Step}
use Rattle.geo_journal.specs.Marks.{Noted, Marked, with_step, marked_with}
use Rattle.geo_site.specs.declared.event.Event.{Event}
use Rattle.geo_site.specs.declared.event.Event.TheVariants.{Command, Tick}
use Rattle.geo_site.specs.declared.event.Answer.{Answer}
use Rattle.geo_site.specs.declared.event.Answer.TheVariants.{Replied, Ticked}
use Rattle.geo_station.specs.Wholes.{Adds, AddsFlush, AddsReply, NotesOne, NotesNone, NotesReply, TicksOnce, Within}
use Rattle.geo_session.specs.Chains.{IsFlush, Flushes, IsTold, Tells, TellAll, GoesOnWith}
use Rattle.geo_dialogue.specs.Exchanges.{Exchange, Asked, Told, Runs}
use Rattle.geo_session.specs.Seats.{Asker, AnswersCounted}

-- a seat's own steps, behind one that is noted
noted_own : (olds news : Noted) (old new : Marked) (event : Event) (answer : Answer) (n : NotesOne olds news old new event answer) → new.own ≡ old.own ++ n.step ∷ []
noted_own olds news old new event answer n = ap (λ (m : Marked). m.own) n.mark

one_flush : (olds news : Noted) (old new : Marked) (now : ℕ) (n : NotesOne olds news old new (Tick now) (Ticked true)) → Flushes (n.step ∷ [])
one_flush olds news old new now n = inr (n.step, refl, record { now = now; asked = n.asked; said = n.said })

-- a request that was not carried out
flush_tells : (old new : Marked) (now : ℕ) (request : Request) (reply : Reply) → reply ≡ OutOfMemory → AddsFlush old new now
    → (steps : List Step) × (new.own ≡ old.own ++ steps) × Tells request reply steps
flush_tells old new now request reply wants (inl same) = ([], ap (λ (m : Marked). m.own) same ∙ sym (append-nil old.own), inr (wants, inl refl))
flush_tells old new now request reply wants (inr w) =
    (w.2.step ∷ [], noted_own w.0 w.1 old new (Tick now) (Ticked true) w.2, inr (wants, one_flush w.0 w.1 old new now w.2))

-- one that was
reply_tells : (flushed : Bool) (olds mid news : Noted) (old between new : Marked) (now : ℕ) (request : Request) (reply : Reply)
    → TicksOnce flushed olds mid old between now → NotesOne mid news between new (Command now request) (Replied reply)
    → (steps : List Step) × (new.own ≡ old.own ++ steps) × Tells request reply steps
reply_tells true olds mid news old between new now request reply flush n = (
  flush.step ∷ n.step ∷ [],
  noted_own mid news between new (Command now request) (Replied reply) n
      ∙ ap (λ (l : List Step). l ++ n.step ∷ []) (noted_own olds mid old between (Tick now) (Ticked true) flush)
      ∙ append_assoc old.own (flush.step ∷ []) (n.step ∷ []),
  inl (record {
    before = flush.step ∷ [];
    flushes = one_flush olds mid old between now flush;
    step = n.step;
    now = now;
    is = refl;
    asked = n.asked;
    said = n.said;
  }),
)
reply_tells false olds mid news old between new now request reply flush n = (
  n.step ∷ [],
  noted_own mid news between new (Command now request) (Replied reply) n ∙ ap (λ (m : Marked). m.own ++ n.step ∷ []) flush.1,
  inl (record {
    before = [];
    flushes = inl refl;
    step = n.step;
    now = now;
    is = refl;
    asked = n.asked;
    said = n.said;
  }),
)

adds_tells : (old new : Marked) (now : ℕ) (request : Request) (reply : Reply) → AddsReply old new now request (Ok reply)
    → (steps : List Step) × (new.own ≡ old.own ++ steps) × Tells request reply steps
adds_tells old new now request reply (inl p) = flush_tells old new now request reply p.0 p.1
adds_tells old new now request reply (inr w) =
    reply_tells w.2.flushed w.0 w.2.mid w.1 old w.2.between new now request reply w.2.flush w.2.replies

-- one exchange more, in front
tells_on : (old mid new : Marked) (request : Request) (reply : Reply) (exchanges : List Exchange)
    → ((steps : List Step) × (mid.own ≡ old.own ++ steps) × Tells request reply steps) → GoesOnWith exchanges mid new
    → GoesOnWith (Asked request reply ∷ exchanges) old new
tells_on old mid new request reply exchanges one rest = record {
  steps = one.0 ++ rest.steps;
  own = rest.own ∙ ap (λ (l : List Step). l ++ rest.steps) one.1 ∙ append_assoc old.own one.0 rest.steps;
  tell = (one.0, rest.steps, refl, one.2, rest.tell);
}

-- a run of a seat's backend
pub run_tells : (shows : ℕ → Type 0) (exchanges : List Exchange) (old new : Asker)
    → Runs (λ (a : Asker) (request : Request) (reply : Reply) (b : Asker). AnswersCounted shows a b request reply) old exchanges new
    → GoesOnWith exchanges old.seat.mark new.seat.mark
run_tells shows [] old new same = record {
  steps = [];
  own = ap (λ (a : Asker). a.seat.mark.own) same ∙ sym (append-nil old.seat.mark.own);
  tell = refl;
}
run_tells shows (Asked request reply ∷ exchanges) old new r =
    tells_on old.seat.mark r.0.seat.mark new.seat.mark request reply exchanges
    (adds_tells old.seat.mark r.0.seat.mark r.0.last request reply r.1.acts.adds)
    (run_tells shows exchanges r.0 new r.2)
run_tells shows (Told fault ∷ exchanges) old new r =
    let rest = run_tells shows exchanges old new r in
    record { steps = rest.steps; own = rest.own; tell = rest.tell }

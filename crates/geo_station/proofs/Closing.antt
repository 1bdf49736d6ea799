-- What a station's end tells of its history.
use Rattle.std.proofs.Common.{if◌then◌else◌, refl, ◌≡◌, ◌≢◌, ◌⊎◌, ◌≤◌, ◌+◌, ℕ, Bool, true, false, cond, List, [], ◌++◌, Option, None, Some, Result, Ok, Err, IfOk, IfSome, ap, inl, inr, sym, subst, ◌∙◌, arith}
use Rattle.std.specs.declared.alloc.AllocError.{AllocError}
use Rattle.std.proofs.Math.Logic.{∥∥₁_map}
use Rattle.geo_history.specs.declared.history.History.{History}
use Rattle.geo_site.specs.Standings.{who_of, standing_in}
use Rattle.geo_history.specs.Keeping.{Keeps, Story}
use Rattle.geo_history.specs.declared.kept.Kept.{Kept}
use Rattle.geo_history.specs.Sizes.{fills}
use Rattle.geo_requests.specs.declared.request.Request.{Request}
use Rattle.geo_requests.specs.declared.reply.Reply.{Reply}
use Rattle.geo_requests.specs.declared.reply.Reply.TheVariants.{OutOfMemory}
use Rattle.geo_site.specs.declared.event.Event.TheVariants.{Command}
use Rattle.geo_site.specs.declared.event.Answer.TheVariants.{Replied}
use Rattle.geo_history.specs.declared.step.Step.{Step}
use Rattle.geo_history.specs.Stories.{IsHistoryOf, NewEraDoes, StaysTold, is_full, is_logged, last_era, most_bytes_in, logged_steps, setup_in, story_in}
use Rattle.std.specs.List.{All}
use Rattle.std.proofs.lemmas.Grind.{merely}
use Rattle.geo_journal.specs.Marks.{Noted, Agree}
use Rattle.geo_station.specs.Wholes.{IsWhole}
use Rattle.geo_station.specs.Seats.{Seated, IsOneHistory, IsLawful, call_of, kept_with, is_long, trimmed}
use Rattle.geo_station.specs.Calls.{HasAsked, HasFlushed}
use Rattle.geo_station.specs.Eras.{EndsWhereFull}

pub lawful_of : (story : Story) (history : History) → IsHistoryOf story history → IsLawful history
lawful_of story history is = ∥∥₁_map is.kept (λ k. (
  standing_in story.site,
  subst (λ steps. Keeps (who_of history.setup) history.opening steps (standing_in story.site)) (sym is.steps)
      (subst (λ opening. Keeps (who_of history.setup) opening story.steps (standing_in story.site)) (sym is.opening)
      (subst (λ who. Keeps who story.opening story.steps (standing_in story.site)) (sym is.who) k)),
))

pub ended_lawful : (logged : Bool) (old new : Story) (result : Result (Option History) AllocError) → NewEraDoes logged old new result → IfOk result (λ ended. IfSome ended IsLawful)
ended_lawful logged old new (Ok (Some history)) does = lawful_of old history does.0
ended_lawful logged old new (Ok None) does = tt
ended_lawful logged old new (Err refused) does = tt

-- where steps are logged those are all
pub all_logged : (kept : Kept) → is_logged kept ≡ true → logged_steps kept ≡ (story_in kept).steps
all_logged kept on = ap (λ (b : Bool). cond b (story_in kept).steps []) on

-- what a new era tells where the steps kept as many bytes as they may
pub ends_where_full : (old new : Kept) (result : Result (Option History) AllocError) → is_full old ≡ true → NewEraDoes (is_logged old) (story_in old) (story_in new) result
    → IfOk result (λ ended. IfSome ended (λ history. history.setup ≡ setup_in old)) → StaysTold old new → EndsWhereFull new result
ends_where_full old new (Ok (Some history)) full does setup told = record {
  full = ap (λ m. fills m history.steps.items) told.1 ∙ ap (λ steps. fills (most_bytes_in old) steps) (does.0.steps ∙ sym (all_logged old does.2)) ∙ full;
  lawful = lawful_of (story_in old) history does.0;
  setup = setup ∙ sym told.0;
  anew = does.1.steps;
}
ends_where_full old new (Ok None) full does setup told = by does.0
  where
    by : (is_logged old ≡ false) ⊎ ((story_in old).opening.era ≡ last_era) → EndsWhereFull new (Ok None)
    by (inl off) = inr (inl (told.2 ∙ off))
    by (inr last) = inr (inr (ap (λ (s : Story). s.opening.era) does.1 ∙ last))
ends_where_full old new (Err refused) full does setup told =
    ap (λ m. fills m (logged_steps new)) told.1
    ∙ ap (λ (b : Bool). fills (most_bytes_in old) (cond {A = List Step} b (story_in new).steps [])) told.2
    ∙ ap (λ (s : Story). fills (most_bytes_in old) (cond {A = List Step} (is_logged old) s.steps [])) does ∙ full

-- a seat that keeps no call
pub asked_unlogged : (old new : Seated) (now flushes : ℕ) (request : Request) (reply : Reply) → flushes ≤ 1 → reply ≢ OutOfMemory → old.logged ≡ false
    → new ≡ record old { mark = new.mark; steps = old.steps + (flushes + 1) } → HasAsked old new now request reply
asked_unlogged old new now flushes request reply few said off same = record {
  flushes = flushes;
  few = few;
  said = said;
  is = same ∙ (λ i. record old { mark = new.mark; steps = old.steps + (flushes + 1); calls = as_they_were i });
}
  where
    as_they_were : old.calls ≡ kept_with old.logged old.calls (call_of (Command now request) (Replied reply))
    as_they_were = sym (ap (λ (b : Bool). kept_with b old.calls (call_of (Command now request) (Replied reply))) off)

-- a seat that is as it was
pub flushed_none : (old new : Seated) → new ≡ old → HasFlushed old new
flushed_none old new same = record { flushes = 0; few = omega arith; is = same ∙ (λ i. record old { mark = as_marked i; steps = as_it_was i }) }
  where
    as_marked : old.mark ≡ new.mark
    as_marked = ap (λ (s : Seated). s.mark) (sym same)

    as_it_was : old.steps ≡ old.steps + 0
    as_it_was = omega arith

-- a seat that lets go of its calls keeps its mark
pub mark_stays : (seat : Seated) → (trimmed seat).mark ≡ seat.mark
mark_stays seat = by (is_long seat.calls)
  where
    by : (long : Bool) → (if long then record seat { calls = []; forgot = true } else seat).mark ≡ seat.mark
    by true = refl
    by false = refl

-- the one history of a station that is closed
pub one_history_of : (story : Story) (all : Noted) (seats : List Seated) (steps : List Step) → ∥ IsWhole story all ∥₁ → All (λ (s : Seated). Agree all s.mark) seats → steps ≡ story.steps
    → ∥ IsOneHistory steps seats ∥₁
one_history_of story all seats steps whole each same = ∥∥₁_map whole (λ w. record {
  all = all;
  before = w.before;
  replayed = merely (standing_in story.site, w.history);
  ends = w.ends ∙ ap (λ (ss : List Step). w.before ++ ss) (sym same);
  each = each;
})

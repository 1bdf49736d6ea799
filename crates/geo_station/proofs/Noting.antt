-- The one history goes on as a site's does.
use Rattle.std.proofs.Common.{◌≡◌, ◌⊎◌, inl, inr, ℕ, ◌+◌, ◌<◌, ◌==◌, ◌&&◌, Bool, true, false, cond, List, [], ◌∷◌, ◌++◌, length, Option, None, Some, IfSome, refl, ap, sym, ◌∙◌, subst, arith, length-append, append_assoc}
use Rattle.std.proofs.lemmas.List.{append-nil}
use Rattle.std.proofs.lemmas.Bool.Decides.{nat_tests}
use Rattle.geo_site.specs.Standings.{Who, who_in, who_of, Standing, standing_in, nothing_yet}
use Rattle.geo_stamp.specs.Acks.{none_heard}
use Rattle.geo_site.specs.Entries.{none_counted}
use Rattle.geo_site.specs.Machine.{fresh}
use Rattle.geo_site.proofs.Issuing.{stands_same}
use Rattle.geo_site.specs.declared.event.Event.{Event}
use Rattle.geo_site.specs.declared.event.Answer.{Answer}
use Rattle.geo_site.specs.declared.setup.Setup.{Setup}
use Rattle.geo_history.specs.declared.history.Opening.{Opening}
use Rattle.geo_history.specs.declared.step.Step.{Step}
use Rattle.geo_history.specs.Replays.{Replays, steps_of, is_numbered}
use Rattle.geo_history.specs.Keeping.{Story, OpensEmpty, most_seats, opened_with, made_by, step_with, is_flush_due, flush_steps, GoesOn}
use Rattle.geo_history.specs.Logging.{last_step}
use Rattle.geo_history.proofs.Logging.{last_of}
use Rattle.geo_history.specs.Stories.{Renews}
use Rattle.geo_history.proofs.Keeps.{Continues, replays_append, numbered_append, of_append}
use Rattle.geo_history.proofs.Calls.{Goes}
use Rattle.geo_journal.specs.Marks.{Noted, Marked, Agree, with_step, marked_with, with_seat, start_of}
use Rattle.geo_station.specs.Wholes.{who_at, IsHistory, IsWhole, IsMadeBy, NotesNone, NotesOne}

-- ---- the last step
pub last_made : (old new : Story) (s : Step) → GoesOn old new (s ∷ []) → last_step new.steps ≡ Some s
last_made old new s on = ap last_step on.more ∙ last_of old.steps s

pub made_by_seat : (old new : Story) (seat : ℕ) (s : Step) → GoesOn old new (s ∷ []) → s.seat ≡ seat → IsMadeBy new seat
made_by_seat old new seat s on is = (s, last_made old new s on, is)

-- ---- which steps there are more
abbrev rest : List Step → List Step
rest [] = []
rest (x ∷ xs) = xs

cancel : (xs a b : List Step) → xs ++ a ≡ xs ++ b → a ≡ b
cancel [] a b e = e
cancel (x ∷ xs) a b e = cancel xs a b (ap rest e)

pub same_more : (old new : Story) (a b : List Step) → GoesOn old new a → GoesOn old new b → a ≡ b
same_more old new a b one two = cancel old.steps a b (sym one.more ∙ two.more)

-- ---- the whole
made_before : (story : Story) (all : Noted) (seat : ℕ) → seat < most_seats → IsWhole story all → made_by story seat + 1 ≡ 1 + length (steps_of seat all.steps)
made_before story all seat below w =
    let parts = ap (λ (ss : List Step). length (steps_of seat ss)) w.ends ∙ ap length (of_append seat w.before story.steps) ∙ length-append (steps_of seat w.before) (steps_of seat story.steps) in
    omega (arith, parts, w.counts seat below)

pub whole_goes : (old new : Story) (all : Noted) (goes : Goes old new) → IsWhole old all → IsWhole new (record all { steps = all.steps ++ goes.more })
whole_goes old new all goes w =
    let c = goes.on in
    record {
      who = w.who ∙ sym c.who;
      history = record {
        replays = replays_append (who_at all.start) (nothing_yet all.start.sites) (standing_in old.site) (standing_in new.site) all.steps goes.more w.history.replays (subst (λ (w : Who). Replays w (standing_in old.site) goes.more (standing_in new.site)) (sym w.who) c.replays);
        numbered = λ seat below. rw (of_append seat all.steps goes.more) (numbered_append 1 (steps_of seat all.steps) (steps_of seat goes.more) (w.history.numbered seat below) (subst (λ n. is_numbered n (steps_of seat goes.more) ≡ true) (made_before old all seat below w) (c.numbered seat)));
      };
      before = w.before;
      ends = ap (λ (ss : List Step). ss ++ goes.more) w.ends ∙ append_assoc w.before old.steps goes.more ∙ ap (λ (ss : List Step). w.before ++ ss) (sym c.goes_on.more);
      counts = λ seat below. ap (λ (o : Opening). opened_with o seat) c.goes_on.opening ∙ w.counts seat below;
    }

pub whole_more : (old new : Story) (all : Noted) (s : Step) → Goes old new → GoesOn old new (s ∷ []) → IsWhole old all → IsWhole new (with_step all s)
whole_more old new all s goes on w = subst (λ (ss : List Step). IsWhole new (record all { steps = all.steps ++ ss })) (same_more old new goes.more (s ∷ []) goes.on.goes_on on) (whole_goes old new all goes w)

pub whole_still : (old new : Story) (all : Noted) → Goes old new → GoesOn old new [] → IsWhole old all → IsWhole new all
whole_still old new all goes on w =
    let more = same_more old new goes.more [] goes.on.goes_on on in
    let none : all.steps ++ goes.more ≡ all.steps = ap (λ (ss : List Step). all.steps ++ ss) more ∙ append-nil all.steps in
    subst (λ (ss : List Step). IsWhole new (record all { steps = ss })) none (whole_goes old new all goes w)

pub whole_renewed : (old new : Story) (all : Noted) → Renews old new → IsWhole old all → IsWhole new all
whole_renewed old new all r w = record {
  who = w.who ∙ ap who_in (sym r.site);
  history = subst (λ st. IsHistory all st) (ap standing_in (sym r.site)) w.history;
  before = all.steps;
  ends = sym (append-nil all.steps) ∙ ap (λ (ss : List Step). all.steps ++ ss) (sym r.steps);
  counts = λ seat below. let h = made_before old all seat below w in omega (arith, h, r.counts seat below);
}

-- ---- steps where no flush is due
pub undue_more : (old new : Story) (seat now : ℕ) (s : Step) → is_flush_due old now ≡ false → GoesOn old new (flush_steps old seat now ++ s ∷ []) → GoesOn old new (s ∷ [])
undue_more old new seat now s undue on = subst (λ (ss : List Step). GoesOn old new (ss ++ s ∷ [])) none on
  where
    none : flush_steps old seat now ≡ []
    none = ap (λ (b : Bool). cond {A = List Step} b (Rattle.geo_history.specs.Keeping.step_of seat (made_by old seat + 1) (Rattle.geo_site.specs.declared.event.Event.TheVariants.Tick now) (Rattle.geo_site.specs.declared.event.Answer.TheVariants.Ticked true) ∷ []) []) undue

pub undue_none : (old new : Story) (seat now : ℕ) → is_flush_due old now ≡ false → GoesOn old new (flush_steps old seat now) → GoesOn old new []
undue_none old new seat now undue on = subst (GoesOn old new) (ap (λ (b : Bool). cond {A = List Step} b (Rattle.geo_history.specs.Keeping.step_of seat (made_by old seat + 1) (Rattle.geo_site.specs.declared.event.Event.TheVariants.Tick now) (Rattle.geo_site.specs.declared.event.Answer.TheVariants.Ticked true) ∷ []) []) undue) on

-- ---- what is noted
some_is : (a b : Step) → Some a ≡ Some b → a ≡ b
some_is a b e = ap (from a) e
  where
    from : Step → Option Step → Step
    from other None = other
    from other (Some x) = x

pub notes_last : (olds news : Noted) (old new : Marked) (story : Story) (s : Step) (event : Event) (answer : Answer) → last_step story.steps ≡ Some s
    → IfSome (last_step story.steps) (λ x. (news ≡ with_step olds x) × (new ≡ marked_with olds old x)) → Agree olds old
    → s.seat ≡ old.number → s.event ≡ event → s.answer ≡ answer → NotesOne olds news old new event answer
notes_last olds news old new story s event answer last noted agree seat asked said =
    let this : (news ≡ with_step olds s) × (new ≡ marked_with olds old s) = subst (λ (o : Option Step). IfSome o (λ x. (news ≡ with_step olds x) × (new ≡ marked_with olds old x))) last noted in
    record { step = s; seat = seat; asked = asked; said = said; all = this.0; mark = this.1; agree = agree }

pub whole_noted : (old new : Story) (olds news : Noted) (s : Step) (P : Step → Type 0) → Goes old new → GoesOn old new (s ∷ [])
    → IfSome (last_step new.steps) (λ x. (news ≡ with_step olds x) × P x) → IsWhole old olds → IsWhole new news
whole_noted old new olds news s P goes on noted w =
    let this : (news ≡ with_step olds s) × P s = subst (λ (o : Option Step). IfSome o (λ x. (news ≡ with_step olds x) × P x)) (last_made old new s on) noted in
    subst (λ (a : Noted). IsWhole new a) (sym this.0) (whole_more old new olds s goes on w)

-- a seat that is given is no step
pub whole_seated : (story : Story) (all : Noted) → IsWhole story all → IsWhole story (with_seat all)
whole_seated story all w = record {
  who = w.who;
  history = record { replays = w.history.replays; numbered = w.history.numbered };
  before = w.before;
  ends = w.ends;
  counts = w.counts;
}

-- an empty site, at which nothing was done yet
pub whole_opened : (setup : Setup) (story : Story) (all : Noted) → OpensEmpty setup story → all ≡ record { start = start_of setup; steps = []; given = 0 } → IsWhole story all
whole_opened setup story all opens is = subst (λ (a : Noted). IsWhole story a) (sym is) (record {
  who = λ i. record { number = sym opens.site.4 i; limits = sym opens.site.5 i };
  history = record {
    replays = stands_same (fresh setup.sites setup.pages) story.site (none_heard setup.sites) None none_counted opens.site.9 opens.site.8 opens.site.7 opens.site.6;
    numbered = λ seat below. refl;
  };
  before = [];
  ends = sym opens.steps;
  counts = λ seat below. opens.counts seat;
})

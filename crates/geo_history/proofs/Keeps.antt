-- One more step keeps what a site with its history is, and so does each call.
use Rattle.std.proofs.Common.{◌≡◌, inl, inr, ℕ, zero, suc, ◌+◌, ◌<◌, ◌≤◌, ◌==◌, Bool, true, false, cond, List, [], ◌∷◌, ◌++◌, length, Option, None, refl, ap, sym, ◌∙◌, subst, arith, slice_index_or, slice_set, replicate, sum_by, length-append, append_assoc, if◌then◌else◌}
use Rattle.std.proofs.lemmas.List.{append-nil, get_or-replicate, get_or-set_same, get_or-set_other, length-set, length-replicate}
use Rattle.std.proofs.lemmas.List.Folds.{sum_by-replicate}
use Rattle.std.proofs.lemmas.List.Sums.{sum_by-set}
use Rattle.std.proofs.lemmas.Bool.Decides.{nat_tests}
use Rattle.geo_stamp.specs.Vectors.{zeros}
use Rattle.geo_site.specs.declared.site.Site.{Site}
use Rattle.geo_stamp.specs.Acks.{none_heard}
use Rattle.geo_site.specs.declared.state.SiteState.{SiteState}
use Rattle.geo_site.specs.Entries.{none_counted}
use Rattle.geo_site.specs.Machine.{Same, fresh}
use Rattle.geo_site.specs.Sites.{state_in, heard_in, counts_in, waiting_in, clock_in, victim_in, issued_in, record_count, held_count, Stays, Remains, FlushDoes, ActDoes}
use Rattle.geo_history.specs.declared.history.Opening.{Opening}
use Rattle.geo_site.specs.declared.event.Event.{Event}
use Rattle.geo_site.specs.declared.event.Event.TheVariants.{Tick}
use Rattle.geo_site.specs.declared.event.Answer.{Answer}
use Rattle.geo_site.specs.declared.event.Answer.TheVariants.{Ticked}
use Rattle.geo_history.specs.declared.step.Step.{Step}
use Rattle.geo_site.specs.Standings.{Who, who_in, Standing, standing_in, nothing_yet, Describes}
use Rattle.geo_site.specs.Steps.{StepsTo}
use Rattle.geo_history.specs.Replays.{Replays, steps_of, is_numbered}
use Rattle.geo_history.specs.Keeping.{Story, most_steps, most_seats, opened_with, made_in, made_by, IsCounted, Keeps, IsKept, step_with, step_of, GoesOn, is_flush_due, flush_count, flush_steps, number_after, FlushesAlone, DoesNothing}
use Rattle.geo_site.proofs.Issuing.{stands_same, undue_stands}
use Rattle.geo_site.proofs.Leading.{flush_leads}

-- an element that is there, whatever stands for one that is not
pub get_or_any : (xs : List ℕ) (i d e : ℕ) → i < length xs → slice_index_or xs i d ≡ slice_index_or xs i e
get_or_any [] i d e h = absurd (omega arith)
get_or_any (x ∷ xs) zero d e h = refl
get_or_any (x ∷ xs) (suc i) d e h = get_or_any xs i d e (omega (arith, h))

-- ---- more steps in a list
pub replays_append : (who : Who) (first mid last : Standing) (steps more : List Step) → Replays who first steps mid → Replays who mid more last → Replays who first (steps ++ more) last
replays_append who first mid last [] more is rest = subst (λ st. Replays who st more last) is rest
replays_append who first mid last (x ∷ xs) more got rest = (got.0, got.1, replays_append who got.0 mid last xs more got.2 rest)

pub numbered_append : (from : ℕ) (steps more : List Step) → is_numbered from steps ≡ true → is_numbered (from + length steps) more ≡ true → is_numbered from (steps ++ more) ≡ true
numbered_append from [] more h rest = subst (λ n. is_numbered n more ≡ true) (omega arith) rest
numbered_append from (x ∷ xs) more h rest =
    let here : is_numbered (from + 1) xs ≡ true = grind (arith, nat_tests, h) in
    let on : from + length (x ∷ xs) ≡ from + 1 + length xs = omega arith in
    let behind = numbered_append (from + 1) xs more here (subst (λ n. is_numbered n more ≡ true) on rest) in
    grind (arith, nat_tests, h, behind)

pub of_append : (seat : ℕ) (steps more : List Step) → steps_of seat (steps ++ more) ≡ steps_of seat steps ++ steps_of seat more
of_append seat [] more = refl
of_append seat (x ∷ xs) more =
    elim (x.seat == seat) as (λ b. (if b then x ∷ steps_of seat (xs ++ more) else steps_of seat (xs ++ more)) ≡ (if b then x ∷ steps_of seat xs else steps_of seat xs) ++ steps_of seat more)
    [ true ↦ ap (λ w. x ∷ w) (of_append seat xs more) | false ↦ of_append seat xs more ]

pub steps_mine : (seat : ℕ) (steps : List Step) (s : Step) → s.seat ≡ seat → steps_of seat (steps ++ s ∷ []) ≡ steps_of seat steps ++ s ∷ []
steps_mine seat steps s e =
    let same : (s.seat == seat) ≡ true = grind (arith, nat_tests) in
    of_append seat steps (s ∷ []) ∙ ap (λ (b : Bool). steps_of seat steps ++ (if b then s ∷ [] else [])) same

pub steps_other : (seat : ℕ) (steps : List Step) (s : Step) → (s.seat ≡ seat → ⊥) → steps_of seat (steps ++ s ∷ []) ≡ steps_of seat steps
steps_other seat steps s e =
    let differs : (s.seat == seat) ≡ false = grind (arith, nat_tests) in
    of_append seat steps (s ∷ []) ∙ ap (λ (b : Bool). steps_of seat steps ++ (if b then s ∷ [] else [])) differs ∙ append-nil (steps_of seat steps)

-- ---- one more step of a seat
module _ (opening : Opening) (steps : List Step) (seat : ℕ) (event : Event) (answer : Answer) (victim : Option (List ℕ)) (made : Option (List ℕ × ℕ)) where
  abbrev pub s : Step
  s = step_with seat (made_in opening steps seat + 1) event answer victim made

  pub made_mine : made_in opening (steps ++ s ∷ []) seat ≡ made_in opening steps seat + 1
  made_mine = rw (steps_mine seat steps s refl, length-append (steps_of seat steps) (s ∷ [])) (omega arith)

  pub made_other : (k : ℕ) → (seat ≡ k → ⊥) → made_in opening (steps ++ s ∷ []) k ≡ made_in opening steps k
  made_other k ne = ap (λ (ss : List Step). opened_with opening k + length ss) (steps_other k steps s ne)

  by_seat : (P : ℕ → Type 0) → P seat → ((k : ℕ) → (seat ≡ k → ⊥) → P k) → (k : ℕ) (b : Bool) → (seat == k) ≡ b → P k
  by_seat P here there k true e = let same : seat ≡ k = grind (arith, nat_tests) in subst P same here
  by_seat P here there k false e = there k (λ same. grind (arith, nat_tests, same))

  pub counted_more : (counts : List ℕ) (number : ℕ) → seat < most_seats → made_in opening steps seat < most_steps → number ≡ made_in opening steps seat + 1 → IsCounted opening steps counts → IsCounted opening (steps ++ s ∷ []) (slice_set counts seat number)
  counted_more counts number below room n h = record {
    many = length-set counts seat number ∙ h.many;
    few = λ k under. by_seat (λ k. k < most_seats → made_in opening (steps ++ s ∷ []) k ≤ most_steps)
        (λ under. rw made_mine (omega (arith, room)))
        (λ k ne under. rw (made_other k ne) (h.few k under)) k (seat == k) refl under;
    counted = λ k under. by_seat (λ k. k < most_seats → slice_index_or (slice_set counts seat number) k 0 ≡ made_in opening (steps ++ s ∷ []) k)
        (λ under. get_or-set_same counts seat number 0 (subst (λ m. seat < m) (sym h.many) below) ∙ n ∙ sym made_mine)
        (λ k ne under. get_or-set_other counts seat k number 0 (λ e. ne (sym e)) ∙ h.counted k under ∙ sym (made_other k ne)) k (seat == k) refl under;
    total =
        let more = sum_by-set (λ n. n) counts seat number 0 (subst (λ m. seat < m) (sym h.many) below) in
        let long = length-append steps (s ∷ []) in
        omega (arith, more, long, n, h.counted seat below, h.total);
  }

-- ---- a call
who_stays : (old new : Site) → new.number ≡ old.number → Rattle.geo_site.specs.Sites.limits_of new ≡ Rattle.geo_site.specs.Sites.limits_of old → who_in new ≡ who_in old
who_stays old new n l = λ i. record { number = n i; limits = l i }

keeps_at : (old new : Story) (more : List Step) → who_in new.site ≡ who_in old.site → GoesOn old new more → Keeps (who_in old.site) old.opening (old.steps ++ more) (standing_in new.site) → IsKept new
keeps_at old new more who on h =
    subst (λ (w : Who). Keeps w new.opening new.steps (standing_in new.site)) (sym who)
    (subst (λ (o : Opening). Keeps (who_in old.site) o new.steps (standing_in new.site)) (sym on.opening)
    (subst (λ (ss : List Step). Keeps (who_in old.site) old.opening ss (standing_in new.site)) (sym on.more) h))

-- these steps more lead from where the site stood to where it stands, and each seat's are numbered on
pub record Continues (old new : Story) (more : List Step) : Type 0 where
  pub goes_on : GoesOn old new more
  pub who : who_in new.site ≡ who_in old.site
  pub replays : Replays (who_in old.site) (standing_in old.site) more (standing_in new.site)
  pub numbered : (seat : ℕ) → is_numbered (made_by old seat + 1) (steps_of seat more) ≡ true

-- so the history is one again
pub continues_kept : (old new : Story) (more : List Step) → Continues old new more → IsKept old → IsKept new
continues_kept old new more c kept = keeps_at old new more c.who c.goes_on (record {
  first = kept.first;
  opens = kept.opens;
  replays = replays_append (who_in old.site) kept.first (standing_in old.site) (standing_in new.site) old.steps more kept.replays c.replays;
  numbered = λ seat.
      let on : made_by old seat + 1 ≡ opened_with old.opening seat + 1 + length (steps_of seat old.steps) = omega arith in
      rw (of_append seat old.steps more) (numbered_append (opened_with old.opening seat + 1) (steps_of seat old.steps) (steps_of seat more) (kept.numbered seat) (subst (λ n. is_numbered n (steps_of seat more) ≡ true) on (c.numbered seat)));
})

-- how many steps of a seat there are then
pub made_more : (old new : Story) (more : List Step) → GoesOn old new more → (seat : ℕ) → made_by new seat ≡ made_by old seat + length (steps_of seat more)
made_more old new more on seat = ap (λ (o : Opening). made_in o new.steps seat) on.opening ∙ ap (λ (ss : List Step). made_in old.opening ss seat) on.more
    ∙ (rw (of_append seat old.steps more, length-append (steps_of seat old.steps) (steps_of seat more)) (omega arith))

-- one that makes a step
module _ (old new : Story) (seat : ℕ) (event : Event) (answer : Answer) (victim : Option (List ℕ)) (made : Option (List ℕ × ℕ)) where
  abbrev next : Step
  next = step_with seat (made_by old seat + 1) event answer victim made

  numbered_one : (k : ℕ) (b : Bool) → (seat == k) ≡ b → is_numbered (made_by old k + 1) (if b then next ∷ [] else []) ≡ true
  numbered_one k true e =
      let same : seat ≡ k = grind (arith, nat_tests) in
      let here : is_numbered (made_by old seat + 1) (next ∷ []) ≡ true = grind (arith, nat_tests) in
      subst (λ k. is_numbered (made_by old k + 1) (next ∷ []) ≡ true) same here
  numbered_one k false e = refl

  pub continues_more : new.site.number ≡ old.site.number → Rattle.geo_site.specs.Sites.limits_of new.site ≡ Rattle.geo_site.specs.Sites.limits_of old.site
      → StepsTo (who_in old.site) (standing_in old.site) event answer victim made (standing_in new.site) → GoesOn old new (next ∷ []) → Continues old new (next ∷ [])
  continues_more number limits leads on = record {
    goes_on = on;
    who = who_stays old.site new.site number limits;
    replays = (standing_in new.site, leads, refl);
    numbered = λ k. numbered_one k (seat == k) refl;
  }

-- one that makes none
pub continues_still : (old new : Story) → new.site.number ≡ old.site.number → Rattle.geo_site.specs.Sites.limits_of new.site ≡ Rattle.geo_site.specs.Sites.limits_of old.site → standing_in new.site ≡ standing_in old.site → GoesOn old new [] → Continues old new []
continues_still old new number limits stands on = record { goes_on = on; who = who_stays old.site new.site number limits; replays = stands; numbered = λ k. refl }

-- two, one after the other
pub continues_both : (old mid new : Story) (first after : List Step) → Continues old mid first → Continues mid new after → Continues old new (first ++ after)
continues_both old mid new first after one two = record {
  goes_on = record {
    opening = two.goes_on.opening ∙ one.goes_on.opening;
    more = two.goes_on.more ∙ ap (λ (ss : List Step). ss ++ after) one.goes_on.more ∙ append_assoc old.steps first after;
  };
  who = two.who ∙ one.who;
  replays = replays_append (who_in old.site) (standing_in old.site) (standing_in mid.site) (standing_in new.site) first after one.replays (subst (λ (w : Who). Replays w (standing_in mid.site) after (standing_in new.site)) one.who two.replays);
  numbered = λ seat.
      let on : made_by mid seat + 1 ≡ made_by old seat + 1 + length (steps_of seat first) = let h = made_more old mid first one.goes_on seat in omega (arith, h) in
      rw (of_append seat first after) (numbered_append (made_by old seat + 1) (steps_of seat first) (steps_of seat after) (one.numbered seat) (subst (λ n. is_numbered n (steps_of seat after) ≡ true) on (two.numbered seat)));
}

-- a due flush
pub flush_continues : (old new : Story) (seat now : ℕ) → FlushesAlone old new seat now → Continues old new (flush_steps old seat now)
flush_continues old new seat now does = by (is_flush_due old now) refl does.goes_on
  where
    by : (t : Bool) → is_flush_due old now ≡ t → GoesOn old new (cond {A = List Step} t (step_of seat (made_by old seat + 1) (Tick now) (Ticked true) ∷ []) []) → Continues old new (cond {A = List Step} t (step_of seat (made_by old seat + 1) (Tick now) (Ticked true) ∷ []) [])
    by true e on = continues_more old new seat (Tick now) (Ticked true) None None does.flush.stays.0 does.flush.stays.1 (flush_leads old.site new.site now does.flush e) on
    by false e on = continues_still old new does.flush.stays.0 does.flush.stays.1 (undue_stands old.site new.site now does.flush e) on

-- how many steps there are after it
pub made_flushed : (old new : Story) (seat now : ℕ) → GoesOn old new (flush_steps old seat now) → made_by new seat ≡ made_by old seat + flush_count old now
made_flushed old new seat now on = ap (λ (o : Opening). made_in o new.steps seat) on.opening ∙ ap (λ (ss : List Step). made_in old.opening ss seat) on.more ∙ by (is_flush_due old now)
  where
    by : (t : Bool) → made_in old.opening (old.steps ++ cond {A = List Step} t (step_of seat (made_by old seat + 1) (Tick now) (Ticked true) ∷ []) []) seat ≡ made_by old seat + cond t 1 0
    by true = made_mine old.opening old.steps seat (Tick now) (Ticked true) None None
    by false = rw (append-nil old.steps) (omega arith)

-- one that makes a step after that of a due flush
module _ (old new : Story) (seat now : ℕ) (mid : Site) (flush : FlushDoes old.site mid now) where
  abbrev pub between : Story
  between = record { site = mid; opening = old.opening; steps = old.steps ++ flush_steps old seat now }

  goes_between : GoesOn old between (flush_steps old seat now)
  goes_between = record { opening = refl; more = refl }

  pub continues_after : (event : Event) (answer : Answer) (victim : Option (List ℕ)) (made : Option (List ℕ × ℕ)) → new.site.number ≡ mid.number → Rattle.geo_site.specs.Sites.limits_of new.site ≡ Rattle.geo_site.specs.Sites.limits_of mid
      → StepsTo (who_in mid) (standing_in mid) event answer victim made (standing_in new.site) → GoesOn old new (flush_steps old seat now ++ step_with seat (number_after old seat now) event answer victim made ∷ [])
      → Continues old new (flush_steps old seat now ++ step_with seat (number_after old seat now) event answer victim made ∷ [])
  continues_after event answer victim made number limits leads on =
      let h = made_flushed old between seat now goes_between in
      let first = flush_continues old between seat now (record { flush = flush; goes_on = goes_between }) in
      let more : new.steps ≡ between.steps ++ step_with seat (made_by between seat + 1) event answer victim made ∷ [] =
      on.more ∙ sym (append_assoc old.steps (flush_steps old seat now) (step_with seat (number_after old seat now) event answer victim made ∷ []))
      ∙ ap (λ n. between.steps ++ step_with seat (n + 1) event answer victim made ∷ []) (sym h) in
      let after = continues_more between new seat event answer victim made number limits leads (record { opening = on.opening; more = more }) in
      subst (λ n. Continues old new (flush_steps old seat now ++ step_with seat (n + 1) event answer victim made ∷ [])) h
      (continues_both old between new (flush_steps old seat now) (step_with seat (made_by between seat + 1) event answer victim made ∷ []) first after)

-- ---- an empty history
pub describes_none : (state : SiteState) (sites : ℕ) → state ≡ record { floor = None; records = []; vector = zeros sites; rows = none_heard sites; held = []; waiting = None; hits = 0; misses = 0; evictions = 0 } → Describes state (nothing_yet sites)
describes_none state sites is = subst (λ (st : SiteState). Describes st (nothing_yet sites)) (sym is) (record {
  vector = refl;
  rows = refl;
  floor = refl;
  map = λ key. refl;
  held = λ key. refl;
  waiting = refl;
  counts = refl;
})

pub counted_none : (opening : Opening) (steps : List Step) (counts : List ℕ) → opening.counts.items ≡ [] → steps ≡ [] → counts ≡ replicate 256 0 → IsCounted opening steps counts
counted_none opening steps counts opened none zeroes =
    let made : (seat : ℕ) → made_in opening steps seat ≡ 0 = λ seat i. slice_index_or (opened i) seat 0 + length (steps_of seat (none i)) in
    subst (λ (cs : List ℕ). IsCounted opening steps cs) (sym zeroes) (record {
      many = length-replicate {A = ℕ} 256 0;
      few = λ seat below. subst (λ n. n ≤ most_steps) (sym (made seat)) (omega arith);
      counted = λ seat below. get_or-replicate 256 seat 0 0 below ∙ sym (made seat);
      total = sum_by-replicate (λ n. n) 256 0 ∙ (λ i. sum_by (λ n. n) (sym opened i) + length (sym none i));
    })

pub keeps_none : (site : Site) (opening : Opening) (steps : List Step) (sites pages : ℕ) → Describes opening.state (nothing_yet sites) → steps ≡ [] → Same (fresh sites pages) (state_in site) → heard_in site ≡ none_heard sites → waiting_in site ≡ None → counts_in site ≡ none_counted
    → Keeps (who_in site) opening steps (standing_in site)
keeps_none site opening steps sites pages opens none same rows waiting counts = subst (λ (ss : List Step). Keeps (who_in site) opening ss (standing_in site)) (sym none) (record {
  first = nothing_yet sites;
  opens = opens;
  replays = stands_same (fresh sites pages) site (none_heard sites) None none_counted same rows waiting counts;
  numbered = λ seat. refl;
})

-- What a step tells, by what came of its event.
use Rattle.std.proofs.Common.{◌≡◌, inl, inr, ℕ, zero, suc, ◌+◌, ◌-◌, ◌<◌, false, List, [], ◌∷◌, ◌++◌, length, Option, None, Some, slice_get, refl, sym, ap, ◌∙◌, subst, subst₂, arith, length-append}
use Rattle.std.specs.Prelude.{slice_index_or}
use Rattle.geo_records.specs.Operations.{version_of}
use Rattle.geo_records.specs.declared.version.Version.{Version}
use Rattle.geo_delta.specs.declared.parcel.Parcel.{Parcel}
use Rattle.geo_site.specs.declared.site.Site.{Site}
use Rattle.geo_world.specs.declared.event.Event.{Event as Happening}
use Rattle.geo_world.specs.declared.event.Event.TheVariants as at
use Rattle.geo_world.specs.declared.event.Trace.{Trace}
use Rattle.geo_world.specs.declared.event.Trace.TheVariants as came
use Rattle.geo_site.specs.Entries.{Held}
use Rattle.geo_site.specs.Sites.{state_in}
use Rattle.geo_world.specs.Schedule.{Known, Sending, never_sent, happens, known, Lawful, EachLawful}
use Rattle.geo_site.specs.declared.event.Event.{Event}
use Rattle.geo_site.specs.declared.event.Event.TheVariants.{Command, Evict, Send, Take, Remove, Tick, Reap, Fill, Retire}
use Rattle.geo_site.specs.declared.event.Answer.{Answer}
use Rattle.geo_site.specs.declared.event.Answer.TheVariants.{Replied, Evicted, Sent, SendRefused, Taken as Took, TakeRefused, Removed, Ticked, Reaped, ReapRefused, Filled as FilledAs, Retired, RetireRefused}
use Rattle.geo_history.specs.declared.step.Step.{Step}
use Rattle.geo_world.specs.There.{is_there}
use Rattle.geo_world.specs.Agreement.{Carries as TellsOf, Agrees, about}
use Rattle.geo_site.specs.Tables.{Table, brought_at, brings_nothing}
use Rattle.geo_world.specs.Tables.{Tables, kept, kept_after, Keep, Tallies, EachTallies}
use Rattle.geo_world.proofs.Running.{shows}
use Rattle.geo_audit.specs.declared.play.Play.{Play}
use Rattle.geo_audit.specs.Runs.{event_of, events_of, traces_of, turn_of, lets_go, gone, IsMade, Brings, TellsBeside, Fits, IsToldBy, IsSaid, IsPlainStep}
use Rattle.geo_audit.specs.Misses.{Unheld, BringsOther, OtherBeside, MissesBy, Misses}
use Rattle.geo_audit.specs.Playing.{Plays, Leads, Always, StaysFor, EndsWith, ComesAsTold, Replays, versions_at}
use Rattle.geo_audit.proofs.Only.{untold}
use Rattle.geo_audit.proofs.Playing.{last_lawful, last_tallies, known_on, kept_on, leads_both}

-- the last of a list with one more
last_is : {A : Type 0} (xs : List A) (x d : A) (p : ℕ) → p ≡ length xs → slice_index_or (xs ++ x ∷ []) p d ≡ x
last_is [] x d zero e = refl
last_is [] x d (suc p) e = absurd (omega (arith, e))
last_is (y ∷ xs) x d zero e = absurd (omega (arith, e))
last_is (y ∷ xs) x d (suc p) e = last_is xs x d p (omega (arith, e))

there_is : {A : Type 0} (xs : List A) (i : ℕ) → i < length xs → (x : A) × (slice_get xs i ≡ Some x)
there_is [] i h = absurd (omega (arith, h))
there_is (x ∷ xs) zero h = (x, refl)
there_is (x ∷ xs) (suc i) h = there_is xs i (omega (arith, h))

-- only a send that makes a parcel is told so
trace_sent : (trace : Trace) (parcel : Parcel) → IsToldBy trace (Sent parcel) → trace ≡ came.Sent
trace_sent (came.Replied reply victim) parcel t = absurd t
trace_sent (came.Evicted done) parcel t = absurd t
trace_sent came.Sent parcel t = refl
trace_sent (came.SendRefused why) parcel t = absurd t
trace_sent came.Taken parcel t = absurd t
trace_sent (came.TakeRefused why) parcel t = absurd t
trace_sent (came.Removed horizon count) parcel t = absurd t
trace_sent (came.Ticked done) parcel t = absurd t
trace_sent (came.Reaped done) parcel t = absurd t
trace_sent (came.ReapRefused why) parcel t = absurd t
trace_sent (came.Filled filled) parcel t = absurd t
trace_sent came.FillRefused parcel t = absurd t
trace_sent (came.Retired fresh) parcel t = absurd t
trace_sent (came.RetireRefused why) parcel t = absurd t

-- what is known of a sending
abbrev posted : Known → ℕ → ℕ → Sending
posted w site to = record { from = site; to = to; set = w.sets site; ops = w.at site }

-- the parcel that a send made
module _ (w : Known) (all : Tables) (site to : ℕ) (sites : List Site) (parcels : List Parcel) (agrees : Agrees sites parcels (happens w (at.Send site to) came.Sent)) (keep : Keep sites parcels (kept_after w all (at.Send site to) came.Sent)) where
  place_known : length parcels - 1 ≡ length w.sent
  place_known = let a = agrees.as_many in let l = length-append w.sent ((posted w site to) ∷ []) in omega (arith, a, l)

  place_kept : length parcels - 1 ≡ length all.sent
  place_kept = let a = keep.as_many in let l = length-append all.sent (brought_at site to (all.at site) ∷ []) in omega (arith, a, l)

  pub made_is : (parcel : Parcel) → slice_get parcels (length parcels - 1) ≡ Some parcel → IsMade w all site to parcel
  made_is parcel last = record {
    tells = subst (λ n. TellsOf n w.at parcel (posted w site to)) (sym agrees.numbers)
        (subst (TellsOf (length sites) w.at parcel) (last_is w.sent (posted w site to) never_sent (length parcels - 1) place_known) (agrees.each_sent (length parcels - 1) parcel last));
    brings = keep.each_sent (length parcels - 1) parcel last ∙ last_is all.sent (brought_at site to (all.at site)) brings_nothing (length parcels - 1) place_kept;
  }

  pub one_made : (q : Parcel) × (slice_get parcels (length parcels - 1) ≡ Some q)
  one_made = let a = agrees.as_many in let l = length-append w.sent ((posted w site to) ∷ []) in there_is parcels (length parcels - 1) (omega (arith, a, l))

pub brings_of : (w : Known) (all : Tables) (site number : ℕ) (event : Event) (answer : Answer) (trace : Trace) (sites : List Site) (parcels : List Parcel) → IsToldBy trace answer → EndsWith parcels answer
    → Agrees sites parcels (happens w (event_of site number event) trace) → Keep sites parcels (kept_after w all (event_of site number event) trace) → Brings w all site event answer
brings_of w all site number (Command now request) answer trace sites parcels t e agrees keep = tt
brings_of w all site number (Evict key) answer trace sites parcels t e agrees keep = tt
brings_of w all site number (Send to) (Sent parcel) trace sites parcels t e agrees keep =
    let is = trace_sent trace parcel t in
    made_is w all site to sites parcels (subst (λ (u : Trace). Agrees sites parcels (happens w (at.Send site to) u)) is agrees) (subst (λ (u : Trace). Keep sites parcels (kept_after w all (at.Send site to) u)) is keep) parcel e
brings_of w all site number (Send to) (Replied reply) trace sites parcels t e agrees keep = tt
brings_of w all site number (Send to) (Evicted done) trace sites parcels t e agrees keep = tt
brings_of w all site number (Send to) (SendRefused why) trace sites parcels t e agrees keep = tt
brings_of w all site number (Send to) (Took told) trace sites parcels t e agrees keep = tt
brings_of w all site number (Send to) (TakeRefused why) trace sites parcels t e agrees keep = tt
brings_of w all site number (Send to) (Removed count) trace sites parcels t e agrees keep = tt
brings_of w all site number (Send to) (Ticked done) trace sites parcels t e agrees keep = tt
brings_of w all site number (Send to) (Reaped done) trace sites parcels t e agrees keep = tt
brings_of w all site number (Send to) (ReapRefused why) trace sites parcels t e agrees keep = tt
brings_of w all site number (Send to) (FilledAs filled) trace sites parcels t e agrees keep = tt
brings_of w all site number (Send to) (Retired fresh) trace sites parcels t e agrees keep = tt
brings_of w all site number (Send to) (RetireRefused why) trace sites parcels t e agrees keep = tt
brings_of w all site number (Take parcel) answer trace sites parcels t e agrees keep = tt
brings_of w all site number Remove answer trace sites parcels t e agrees keep = tt
brings_of w all site number (Tick now) answer trace sites parcels t e agrees keep = tt
brings_of w all site number (Reap now key) answer trace sites parcels t e agrees keep = tt
brings_of w all site number (Fill key bytes) answer trace sites parcels t e agrees keep = tt
brings_of w all site number (Retire other) answer trace sites parcels t e agrees keep = tt

-- where the parcel that is told is not the last, another was made
other_made : (w : Known) (all : Tables) (site number : ℕ) (event : Event) (parcel : Parcel) (sites : List Site) (parcels : List Parcel) → (slice_get parcels (length parcels - 1) ≡ Some parcel → ⊥) → Lawful w (event_of site number event) came.Sent
    → Agrees sites parcels (happens w (event_of site number event) came.Sent) → Keep sites parcels (kept_after w all (event_of site number event) came.Sent) → BringsOther w all site event (Sent parcel)
other_made w all site number (Command now request) parcel sites parcels other l agrees keep = absurd l
other_made w all site number (Evict key) parcel sites parcels other l agrees keep = absurd l
other_made w all site number (Send to) parcel sites parcels other l agrees keep =
    let one = one_made w all site to sites parcels agrees keep in
    let is = made_is w all site to sites parcels agrees keep one.0 one.1 in
    record { made = one.0; is = is; other = λ e. other (one.1 ∙ ap Some e) }
other_made w all site number (Take taken) parcel sites parcels other l agrees keep = absurd l
other_made w all site number Remove parcel sites parcels other l agrees keep = absurd l
other_made w all site number (Tick now) parcel sites parcels other l agrees keep = absurd l
other_made w all site number (Reap now key) parcel sites parcels other l agrees keep = absurd l
other_made w all site number (Fill key bytes) parcel sites parcels other l agrees keep = absurd l
other_made w all site number (Retire another) parcel sites parcels other l agrees keep = absurd l

brings_other : (w : Known) (all : Tables) (site number : ℕ) (event : Event) (answer : Answer) (trace : Trace) (sites : List Site) (parcels : List Parcel) → IsToldBy trace answer → (EndsWith parcels answer → ⊥) → Lawful w (event_of site number event) trace
    → Agrees sites parcels (happens w (event_of site number event) trace) → Keep sites parcels (kept_after w all (event_of site number event) trace) → BringsOther w all site event answer
brings_other w all site number event (Sent parcel) trace sites parcels t apart l agrees keep =
    let is = trace_sent trace parcel t in
    other_made w all site number event parcel sites parcels apart (subst (λ (u : Trace). Lawful w (event_of site number event) u) is l) (subst (λ (u : Trace). Agrees sites parcels (happens w (event_of site number event) u)) is agrees) (subst (λ (u : Trace). Keep sites parcels (kept_after w all (event_of site number event) u)) is keep)
brings_other w all site number event (Replied reply) trace sites parcels t apart l agrees keep = absurd (apart tt)
brings_other w all site number event (Evicted done) trace sites parcels t apart l agrees keep = absurd (apart tt)
brings_other w all site number event (SendRefused why) trace sites parcels t apart l agrees keep = absurd (apart tt)
brings_other w all site number event (Took told) trace sites parcels t apart l agrees keep = absurd (apart tt)
brings_other w all site number event (TakeRefused why) trace sites parcels t apart l agrees keep = absurd (apart tt)
brings_other w all site number event (Removed count) trace sites parcels t apart l agrees keep = absurd (apart tt)
brings_other w all site number event (Ticked done) trace sites parcels t apart l agrees keep = absurd (apart tt)
brings_other w all site number event (Reaped done) trace sites parcels t apart l agrees keep = absurd (apart tt)
brings_other w all site number event (ReapRefused why) trace sites parcels t apart l agrees keep = absurd (apart tt)
brings_other w all site number event (FilledAs filled) trace sites parcels t apart l agrees keep = absurd (apart tt)
brings_other w all site number event (Retired fresh) trace sites parcels t apart l agrees keep = absurd (apart tt)
brings_other w all site number event (RetireRefused why) trace sites parcels t apart l agrees keep = absurd (apart tt)

-- an event of a site at a place was carried out
module _ (old new : Play) (k number : ℕ) (step : Step) (happening : Happening) (is : happening ≡ event_of (k + 1) number step.event) (trace : Trace) (leads : Leads old new (happening ∷ []) (trace ∷ [])) where
  module _ (first : Known) (none : Tables) (before : List Trace) (p : Plays first none old before) where
    abbrev known_was : Known
    known_was = known first old.events.items before

    abbrev kept_was : Tables
    kept_was = kept first none old.events.items before

    q : Plays first none new (before ++ trace ∷ [])
    q = leads.runs first none before p

    lawful : Lawful known_was happening trace
    lawful = last_lawful first old.events.items before happening trace p.lawful (subst (λ es. EachLawful first es (before ++ trace ∷ [])) leads.events_are q.lawful)

    tallies : Tallies known_was kept_was happening trace
    tallies = last_tallies first none old.events.items before happening trace p.lawful (subst (λ es. EachTallies first none es (before ++ trace ∷ [])) leads.events_are q.tallies)

    agrees : Agrees new.world.sites.items new.world.parcels.items (happens known_was happening trace)
    agrees = subst (Agrees new.world.sites.items new.world.parcels.items) (known_on old new (happening ∷ []) (trace ∷ []) leads first none before p) q.agrees

    keep : Keep new.world.sites.items new.world.parcels.items (kept_after known_was kept_was happening trace)
    keep = subst (Keep new.world.sites.items new.world.parcels.items) (kept_on old new (happening ∷ []) (trace ∷ []) leads first none before p) q.keep

    module _ (one two : Site) (was : slice_get old.world.sites.items k ≡ Some one) (now : slice_get new.world.sites.items k ≡ Some two) where
      vectors : (state_in one).vector ≡ (kept_was.at (k + 1)).vector
      vectors = ap (λ (t : Table). t.vector) (p.keep.each k (k + 1) one refl was)

      held_before : (state_in one).stock.held ≡ known_was.held (k + 1)
      held_before = λ i key. (p.agrees.each k (k + 1) one refl was).state.same_held key i

      held_after : (state_in two).stock.held ≡ (happens known_was happening trace).held (k + 1)
      held_after = λ i key. (agrees.each k (k + 1) two refl now).state.same_held key i

      versions : versions_at two ≡ version_of ((happens known_was happening trace).at (k + 1))
      versions = λ i key. (shows (length new.world.sites.items) (k + 1) two (about (happens known_was happening trace) (k + 1)) (agrees.each k (k + 1) two refl now)).versions key i

      -- what was seen at the site is what is known
      pub seen : (P : List ℕ → Held → Held → (List ℕ → Option Version) → Type 0) → P (state_in one).vector (state_in one).stock.held (state_in two).stock.held (versions_at two)
          → P (kept_was.at (k + 1)).vector (known_was.held (k + 1)) ((happens known_was happening trace).held (k + 1)) (version_of ((happens known_was happening trace).at (k + 1)))
      seen P x = subst (P (kept_was.at (k + 1)).vector (known_was.held (k + 1)) ((happens known_was happening trace).held (k + 1))) versions
          (subst (λ h. P (kept_was.at (k + 1)).vector (known_was.held (k + 1)) h (versions_at two)) held_after
          (subst (λ h. P (kept_was.at (k + 1)).vector h (state_in two).stock.held (versions_at two)) held_before
          (subst (λ v. P v (state_in one).stock.held (state_in two).stock.held (versions_at two)) vectors x)))

  module _ (said : IsSaid trace) where
    -- it tells another answer
    pub answers_other : (IsToldBy trace step.answer → ⊥) → Always old (λ w all. MissesBy w all (k + 1) happening step)
    answers_other apart first none before p = inr (record { trace = trace; lawful = lawful first none before p; tallies = tallies first none before p; said = said; other = inl (untold (known_was first none before p) (kept_was first none before p) happening step.answer trace (lawful first none before p) (tallies first none before p) said apart) })

    module _ (told : IsToldBy trace step.answer) where
      -- or another parcel
      pub makes_other : (EndsWith new.world.parcels.items step.answer → ⊥) → Always old (λ w all. MissesBy w all (k + 1) happening step)
      makes_other apart first none before p = inr (record {
        trace = trace;
        lawful = lawful first none before p;
        tallies = tallies first none before p;
        said = said;
        other = inr (inl (brings_other (known_was first none before p) (kept_was first none before p) (k + 1) number step.event step.answer trace new.world.sites.items new.world.parcels.items told apart
            (subst (λ (h : Happening). Lawful (known_was first none before p) h trace) is (lawful first none before p))
            (subst (λ (h : Happening). Agrees new.world.sites.items new.world.parcels.items (happens (known_was first none before p) h trace)) is (agrees first none before p))
            (subst (λ (h : Happening). Keep new.world.sites.items new.world.parcels.items (kept_after (known_was first none before p) (kept_was first none before p) h trace)) is (keep first none before p))));
      })

      module _ (ends : EndsWith new.world.parcels.items step.answer) (one two : Site) (was : slice_get old.world.sites.items k ≡ Some one) (now : slice_get new.world.sites.items k ≡ Some two) where
        -- or something else beside it
        pub tells_other : OtherBeside (state_in one).vector (state_in one).stock.held (state_in two).stock.held (versions_at two) step.event step.answer step.victim step.made → Always old (λ w all. MissesBy w all (k + 1) happening step)
        tells_other x first none before p = inr (record {
          trace = trace;
          lawful = lawful first none before p;
          tallies = tallies first none before p;
          said = said;
          other = inr (inr (seen first none before p one two was now (λ v h g n. OtherBeside v h g n step.event step.answer step.victim step.made) x));
        })

        -- or what is so
        pub answers_so : TellsBeside (state_in one).vector (state_in one).stock.held (state_in two).stock.held (versions_at two) step.event step.answer step.victim step.made → ComesAsTold old new (k + 1) happening step
        answers_so x = record {
          trace = trace;
          leads = leads;
          told = told;
          said = said;
          brings = λ first none before p. brings_of (known_was first none before p) (kept_was first none before p) (k + 1) number step.event step.answer trace new.world.sites.items new.world.parcels.items told ends
              (subst (λ (h : Happening). Agrees new.world.sites.items new.world.parcels.items (happens (known_was first none before p) h trace)) is (agrees first none before p))
              (subst (λ (h : Happening). Keep new.world.sites.items new.world.parcels.items (kept_after (known_was first none before p) (kept_was first none before p) h trace)) is (keep first none before p));
          beside = λ first none before p. seen first none before p one two was now (λ v h g n. TellsBeside v h g n step.event step.answer step.victim step.made) x;
        }

-- an event that is not there
pub not_there : (old : Play) (k : ℕ) (step : Step) (happening : Happening) → is_there (length old.world.sites.items) (length old.world.parcels.items) happening ≡ false → Always old (λ w all. MissesBy w all (k + 1) happening step)
not_there old k step happening apart first none before p = inl ((λ i. is_there (p.agrees.numbers i) (p.agrees.as_many i) happening) ∙ apart)

-- ---- a whole step
kept_gone : (w : Known) (all : Tables) (site : ℕ) (victim : Option (List ℕ)) → kept w all (lets_go site victim) (gone victim) ≡ all
kept_gone w all site None = refl
kept_gone w all site (Some key) = refl

known_gone : (w : Known) (site : ℕ) (victim : Option (List ℕ)) (event : Happening) (trace : Trace) → known w (lets_go site victim ++ event ∷ []) (gone victim ++ trace ∷ []) ≡ happens (known w (lets_go site victim) (gone victim)) event trace
known_gone w site None event trace = refl
known_gone w site (Some key) event trace = refl

module _ (old a : Play) (site number : ℕ) (step : Step) (stays : StaysFor old a site step.event) where
  -- the victim is not held
  pub unheld_for : Always a (λ w all. Unheld w site step.victim) → Always old (λ w all. Misses w all site number step)
  unheld_for apart first none before p = inr (inr (inl (subst (λ (w : Known). Unheld w site step.victim) (known_on old a [] [] stays.leads first none before p) (apart first none (before ++ []) (stays.leads.runs first none before p)))))

  module _ (b : Play) (lets : Leads a b (lets_go site step.victim) (gone step.victim)) where
    both : Leads old b (lets_go site step.victim) (gone step.victim)
    both = leads_both old a b [] (lets_go site step.victim) [] (gone step.victim) stays.leads lets

    -- the event misses
    pub misses_for : Always b (λ w all. MissesBy w all site (event_of site number step.event) step) → Always old (λ w all. Misses w all site number step)
    misses_for apart first none before p = inr (inr (inr (subst₂ (λ (w : Known) (all : Tables). MissesBy w all site (event_of site number step.event) step)
        (known_on old b (lets_go site step.victim) (gone step.victim) both first none before p) (kept_on old b (lets_go site step.victim) (gone step.victim) both first none before p)
        (apart first none (before ++ gone step.victim) (both.runs first none before p)))))

    pub replays_for : (new : Play) → IsPlainStep step → ComesAsTold b new site (event_of site number step.event) step → Replays old new site number step
    replays_for new plain answers = record {
      trace = answers.trace;
      leads = leads_both old b new (lets_go site step.victim) (event_of site number step.event ∷ []) (gone step.victim) (answers.trace ∷ []) both answers.leads;
      told = record { answer = answers.told; said = answers.said; plain = plain };
      fits = fits;
    }
      where
        fits : Always old (λ w all. Fits w all (known w (events_of (turn_of site number step answers.trace)) (traces_of (turn_of site number step answers.trace))) (turn_of site number step answers.trace))
        fits first none before p =
            let w = known first old.events.items before in
            let all = kept first none old.events.items before in
            let victim = step.victim in
            let event = event_of site number step.event in
            let known_is = known_on old b (lets_go site victim) (gone victim) both first none before p in
            let kept_is = kept_on old b (lets_go site victim) (gone victim) both first none before p ∙ kept_gone w all site victim in
            let r = both.runs first none before p in
            record {
              undue = stays.undue first none before p;
              brings = subst₂ (λ (u : Known) (t : Tables). Brings u t site step.event step.answer) known_is kept_is (answers.brings first none (before ++ gone victim) r);
              beside = subst (λ (v : Known). TellsBeside (all.at site).vector ((known w (lets_go site victim) (gone victim)).held site) (v.held site) (version_of (v.at site)) step.event step.answer step.victim step.made) (sym (known_gone w site victim event answers.trace))
                  (subst₂ (λ (u : Known) (t : Tables). TellsBeside (t.at site).vector (u.held site) ((happens u event answers.trace).held site) (version_of ((happens u event answers.trace).at site)) step.event step.answer step.victim step.made) known_is kept_is
                  (answers.beside first none (before ++ gone victim) r));
            }

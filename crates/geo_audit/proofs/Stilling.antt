-- A tick that carries out no flush changes nothing, and a victim that is evicted was held.
use Rattle.std.proofs.Common.{◌≡◌, ◌≢◌, ℕ, ◌==◌, inl, inr, Bool, true, false, cond, if◌then◌else◌, List, [], ◌∷◌, ◌++◌, length, Option, None, Some, Ok, refl, sym, ap, ◌∙◌, subst, true≢false, append-nil}
use Rattle.std.specs.Prelude.{is_some}
use Rattle.std.proofs.lemmas.Bool.Decides.{eqb_tells}
use Rattle.geo_records.specs.Operations.{Act, latest}
use Rattle.geo_records.specs.Operations.Act.{Flush}
use Rattle.geo_world.specs.declared.event.Event.TheVariants as at
use Rattle.geo_world.specs.declared.event.Trace.{Trace}
use Rattle.geo_world.specs.declared.event.Trace.TheVariants as came
use Rattle.geo_site.specs.Entries.{flushes_due}
use Rattle.geo_world.specs.Schedule.{Known, happens, known, waits, issues, Lawful, EachLawful}
use Rattle.geo_site.specs.declared.event.Event.{Event}
use Rattle.geo_site.specs.declared.event.Event.TheVariants.{Command, Evict, Send, Take, Remove, Tick, Reap, Fill, Retire}
use Rattle.geo_world.specs.There.{is_in_time, EachThere}
use Rattle.geo_world.specs.Agreement.{Agrees, StepDoes}
use Rattle.geo_site.specs.Tables.{issue_all_at}
use Rattle.geo_world.specs.Tables.{Tables, kept, kept_after, keeps, Keep, Tabled}
use Rattle.geo_world.specs.declared.world.World.{World}
use Rattle.geo_audit.specs.declared.play.Play.{Play}
use Rattle.geo_audit.specs.Runs.{IsRun, IsUndue, event_of, is_timely, lets_go, gone}
use Rattle.geo_audit.specs.Playing.{Plays, Leads, Always, StaysAt, FlushesAt}
use Rattle.geo_audit.proofs.Playing.{last_lawful}

eq_of : (a b : ℕ) → (a == b) ≡ true → a ≡ b
eq_of a b e = elim (eqb_tells a b) [ inl t ↦ t.1 | inr f ↦ absurd (true≢false (sym e ∙ f.0)) ]

same_at : {A : Type 0} (f : ℕ → A) (site t : ℕ) → (if t == site then f site else f t) ≡ f t
same_at f site t = by (t == site) refl
  where
    by : (b : Bool) → (t == site) ≡ b → (if b then f site else f t) ≡ f t
    by true e = ap f (sym (eq_of t site e))
    by false e = refl

still_known : (w : Known) (site now : ℕ) → flushes_due (w.waiting site) (latest (w.at site)) now ≡ false → happens w (at.Tick site now) (came.Ticked false) ≡ w
still_known w site now e =
    ap (λ (b : Bool). waits (issues w site (cond {A = List Act} b (Flush ∷ []) [])) site (cond {A = Option ℕ} b None (w.waiting site))) e
    ∙ (λ i. record { at = w.at; held = w.held; counts = w.counts; waiting = λ t. same_at w.waiting site t i; limits = w.limits; sets = w.sets; sites = w.sites; sent = w.sent })

still_kept : (w : Known) (all : Tables) (site now : ℕ) → flushes_due (w.waiting site) (latest (w.at site)) now ≡ false → kept_after w all (at.Tick site now) (came.Ticked false) ≡ all
still_kept w all site now e =
    ap (λ (b : Bool). keeps all site (issue_all_at site (cond {A = List Act} b (Flush ∷ []) []) (all.at site))) e
    ∙ (λ i. record { at = λ q. same_at all.at site q i; sent = all.sent })

pub stays_step : (old new : Play) (site now : ℕ) (trace : Trace) → trace ≡ came.Ticked false → new.events.items ≡ old.events.items → length new.world.sites.items ≡ length old.world.sites.items → StepDoes old.world new.world (at.Tick site now) 0 (Ok trace)
    → Tabled old.world.sites.items old.world.parcels.items new.world.sites.items new.world.parcels.items (at.Tick site now) trace → StaysAt old new site now
stays_step old new site now trace still is as_many does tabled = record {
  leads = record {
    as_many = as_many;
    events_are = is ∙ sym (append-nil old.events.items);
    runs = λ first none before p. subst (Plays first none new) (sym (append-nil before)) (subst (λ es. IsRun first none new.world.sites.items new.world.parcels.items es before) (sym is) (stays first none before p));
  };
  undue = undue;
}
  where
    does' : (w : Known) → Agrees old.world.sites.items old.world.parcels.items w → Lawful w (at.Tick site now) (came.Ticked false) × Agrees new.world.sites.items new.world.parcels.items (happens w (at.Tick site now) (came.Ticked false))
    does' = subst (λ (t : Trace). (w : Known) → Agrees old.world.sites.items old.world.parcels.items w → Lawful w (at.Tick site now) t × Agrees new.world.sites.items new.world.parcels.items (happens w (at.Tick site now) t)) still does.1

    tabled' : Tabled old.world.sites.items old.world.parcels.items new.world.sites.items new.world.parcels.items (at.Tick site now) (came.Ticked false)
    tabled' = subst (λ (t : Trace). Tabled old.world.sites.items old.world.parcels.items new.world.sites.items new.world.parcels.items (at.Tick site now) t) still tabled

    undue : Always old (λ w all. IsUndue w site now)
    undue first none before p = sym (does' (known first old.events.items before) p.agrees).0

    stays : (first : Known) (none : Tables) (before : List Trace) → Plays first none old before → IsRun first none new.world.sites.items new.world.parcels.items old.events.items before
    stays first none before p =
        let w = known first old.events.items before in
        let all = kept first none old.events.items before in
        let e = undue first none before p in
        record {
          there = subst (λ n. EachThere n first old.events.items before) (sym as_many) p.there;
          lawful = p.lawful;
          tallies = p.tallies;
          agrees = subst (Agrees new.world.sites.items new.world.parcels.items) (still_known w site now e) (does' w p.agrees).1;
          keep = subst (Keep new.world.sites.items new.world.parcels.items) (still_kept w all site now e) (tabled' w all p.agrees p.keep).1;
        }

-- where one was carried out it was due
ticked : (w : Known) (site now : ℕ) (trace : Trace) → trace ≢ came.Ticked false → Lawful w (at.Tick site now) trace → IsUndue w site now → ⊥
ticked w site now (came.Replied reply victim) other l undue = absurd l
ticked w site now (came.Evicted done) other l undue = absurd l
ticked w site now came.Sent other l undue = absurd l
ticked w site now (came.SendRefused why) other l undue = absurd l
ticked w site now came.Taken other l undue = absurd l
ticked w site now (came.TakeRefused why) other l undue = absurd l
ticked w site now (came.Removed horizon count) other l undue = absurd l
ticked w site now (came.Ticked true) other l undue = true≢false (l ∙ undue)
ticked w site now (came.Ticked false) other l undue = other refl
ticked w site now (came.Reaped done) other l undue = absurd l
ticked w site now (came.ReapRefused why) other l undue = absurd l
ticked w site now (came.Filled filled) other l undue = absurd l
ticked w site now came.FillRefused other l undue = absurd l
ticked w site now (came.Retired fresh) other l undue = absurd l
ticked w site now (came.RetireRefused why) other l undue = absurd l

pub flushes_step : (old : Play) (new : World) (site now : ℕ) (trace : Trace) → trace ≢ came.Ticked false → StepDoes old.world new (at.Tick site now) 0 (Ok trace) → FlushesAt old site now
flushes_step old new site now trace other does first none before p = ticked (known first old.events.items before) site now trace other (does.1 (known first old.events.items before) p.agrees).0

-- a victim that was not evicted was not held
held_none : (held : Option (List ℕ)) → false ≡ is_some held → held ≡ None
held_none None e = refl
held_none (Some bytes) e = absurd (true≢false (sym e))

unheld : (w : Known) (site : ℕ) (key : List ℕ) (trace : Trace) → trace ≢ came.Evicted true → Lawful w (at.Evict site key) trace → w.held site key ≡ None
unheld w site key (came.Replied reply victim) other l = absurd l
unheld w site key (came.Evicted true) other l = absurd (other refl)
unheld w site key (came.Evicted false) other l = held_none (w.held site key) l
unheld w site key came.Sent other l = absurd l
unheld w site key (came.SendRefused why) other l = absurd l
unheld w site key came.Taken other l = absurd l
unheld w site key (came.TakeRefused why) other l = absurd l
unheld w site key (came.Removed horizon count) other l = absurd l
unheld w site key (came.Ticked done) other l = absurd l
unheld w site key (came.Reaped done) other l = absurd l
unheld w site key (came.ReapRefused why) other l = absurd l
unheld w site key (came.Filled filled) other l = absurd l
unheld w site key came.FillRefused other l = absurd l
unheld w site key (came.Retired fresh) other l = absurd l
unheld w site key (came.RetireRefused why) other l = absurd l

pub unheld_step : (old new : Play) (site : ℕ) (key : List ℕ) (trace : Trace) → trace ≢ came.Evicted true → Leads old new (at.Evict site key ∷ []) (trace ∷ []) → Always old (λ w all. w.held site key ≡ None)
unheld_step old new site key trace other leads first none before p =
    unheld (known first old.events.items before) site key trace other
    (last_lawful first old.events.items before (at.Evict site key) trace p.lawful (subst (λ es. EachLawful first es (before ++ trace ∷ [])) leads.events_are (leads.runs first none before p).lawful))

pub gone_step : (old new : Play) (site : ℕ) (key : List ℕ) (trace : Trace) → trace ≡ came.Evicted true → Leads old new (at.Evict site key ∷ []) (trace ∷ []) → Leads old new (lets_go site (Some key)) (gone (Some key))
gone_step old new site key trace is leads = subst (λ (t : Trace). Leads old new (at.Evict site key ∷ []) (t ∷ [])) is leads

-- a moment is one of a schedule whichever site and number the event has
pub timely_of : (site number : ℕ) (event : Event) → is_timely event ≡ true → is_in_time (event_of site number event) ≡ true
timely_of site number (Command now request) e = e
timely_of site number (Evict key) e = e
timely_of site number (Send to) e = e
timely_of site number (Take parcel) e = e
timely_of site number Remove e = e
timely_of site number (Tick now) e = e
timely_of site number (Reap now key) e = e
timely_of site number (Fill key bytes) e = e
timely_of site number (Retire other) e = e

-- Events that are carried out, one after the other.
use Rattle.std.proofs.Common.{◌≡◌, ◌+◌, Bool, true, false, List, [], ◌∷◌, ◌++◌, length, take, Result, Ok, Err, refl, true≢false, sym, ap, ◌∙◌, subst, arith, append_assoc, append-nil, length-append}
use Rattle.std.specs.Prelude.{MatchBool, IfOk}
use Rattle.std.proofs.lemmas.List.{length-map}
use Rattle.std.proofs.Math.Seq.{take-append_seam, get_or-append_seam}
use Rattle.geo_delta.specs.declared.parcel.Parcel.{Parcel}
use Rattle.geo_site.specs.declared.setup.Setup.{Setup}
use Rattle.geo_site.specs.declared.site.Site.{Site}
use Rattle.geo_world.specs.declared.event.Event.{Event as Happening}
use Rattle.geo_world.specs.declared.event.Trace.{Trace}
use Rattle.geo_world.specs.Schedule.{Known, happens, known, Lawful, EachLawful}
use Rattle.geo_world.specs.There.{is_there, EachThere}
use Rattle.geo_world.specs.Setups.{are_setups, start}
use Rattle.geo_world.specs.Agreement.{Agrees, WorldOpens, StepDoes}
use Rattle.geo_world.specs.Tables.{empty_tables, Tables, kept, kept_after, Keep, Tabled, Tallies, EachTallies}
use Rattle.geo_world.specs.Running.{HasAllRun}
use Rattle.geo_world.proofs.Running.{HasRun, run_more, all_run}
use Rattle.geo_history.specs.declared.history.History.{History}
use Rattle.geo_audit.specs.declared.play.Play.{Play}
use Rattle.geo_audit.specs.Runs.{IsRun, setup_of, setups_in}
use Rattle.geo_audit.specs.Playing.{Plays, Leads, HasOpened}

-- lawful traces are as many as the events
pub as_many_traces : (w : Known) (es : List Happening) (ts : List Trace) → EachLawful w es ts → length ts ≡ length es
as_many_traces w [] [] l = refl
as_many_traces w [] (t ∷ ts) l = absurd l
as_many_traces w (e ∷ es) [] l = absurd l
as_many_traces w (e ∷ es) (t ∷ ts) l = let n = as_many_traces (happens w e t) es ts l.1 in omega (arith, n)

-- what is known and kept after more events
pub known_append : (w : Known) (es : List Happening) (ts : List Trace) (fs : List Happening) (us : List Trace) → EachLawful w es ts → known w (es ++ fs) (ts ++ us) ≡ known (known w es ts) fs us
known_append w [] [] fs us l = refl
known_append w [] (t ∷ ts) fs us l = absurd l
known_append w (e ∷ es) [] fs us l = absurd l
known_append w (e ∷ es) (t ∷ ts) fs us l = known_append (happens w e t) es ts fs us l.1

pub kept_append : (w : Known) (all : Tables) (es : List Happening) (ts : List Trace) (fs : List Happening) (us : List Trace) → EachLawful w es ts → kept w all (es ++ fs) (ts ++ us) ≡ kept (known w es ts) (kept w all es ts) fs us
kept_append w all [] [] fs us l = refl
kept_append w all [] (t ∷ ts) fs us l = absurd l
kept_append w all (e ∷ es) [] fs us l = absurd l
kept_append w all (e ∷ es) (t ∷ ts) fs us l = kept_append (happens w e t) (kept_after w all e t) es ts fs us l.1

-- the last of them is lawful, and tallies
pub last_lawful : (w : Known) (es : List Happening) (ts : List Trace) (e : Happening) (t : Trace) → EachLawful w es ts → EachLawful w (es ++ e ∷ []) (ts ++ t ∷ []) → Lawful (known w es ts) e t
last_lawful w [] [] e t h l = l.0
last_lawful w [] (u ∷ ts) e t h l = absurd h
last_lawful w (d ∷ es) [] e t h l = absurd h
last_lawful w (d ∷ es) (u ∷ ts) e t h l = last_lawful (happens w d u) es ts e t h.1 l.1

pub last_tallies : (w : Known) (all : Tables) (es : List Happening) (ts : List Trace) (e : Happening) (t : Trace) → EachLawful w es ts → EachTallies w all (es ++ e ∷ []) (ts ++ t ∷ []) → Tallies (known w es ts) (kept w all es ts) e t
last_tallies w all [] [] e t h l = l.0
last_tallies w all [] (u ∷ ts) e t h l = absurd h
last_tallies w all (d ∷ es) [] e t h l = absurd h
last_tallies w all (d ∷ es) (u ∷ ts) e t h l = last_tallies (happens w d u) (kept_after w all d u) es ts e t h.1 l.1

-- one event more
module _ (first : Known) (none : Tables) (sites sites' : List Site) (parcels parcels' : List Parcel) (events : List Happening) (traces : List Trace) (event : Happening) (trace : Trace)
    (as_many : length sites' ≡ length sites) (there : is_there (length sites) (length parcels) event ≡ true)
    (does : (w : Known) → Agrees sites parcels w → Lawful w event trace × Agrees sites' parcels' (happens w event trace))
    (tabled : Tabled sites parcels sites' parcels' event trace) (run : IsRun first none sites parcels events traces) where
  seam : take (length events) (events ++ event ∷ []) ≡ events
  seam = take-append_seam events (event ∷ [])

  so_far : HasRun first none sites parcels (events ++ event ∷ []) traces (length events)
  so_far = record {
    told = as_many_traces first events traces run.lawful;
    lawful = subst (λ es. EachLawful first es traces) (sym seam) run.lawful;
    there = subst (λ es. EachThere (length sites) first es traces) (sym seam) run.there;
    agrees = subst (λ es. Agrees sites parcels (known first es traces)) (sym seam) run.agrees;
    tallies = subst (λ es. EachTallies first none es traces) (sym seam) run.tallies;
    keep = subst (λ es. Keep sites parcels (kept first none es traces)) (sym seam) run.keep;
  }

  many : length (events ++ event ∷ []) ≡ length events + 1
  many = length-append events (event ∷ [])

  after : HasAllRun first none sites' parcels' (events ++ event ∷ []) (traces ++ trace ∷ [])
  after = all_run first none sites' parcels' (events ++ event ∷ []) (traces ++ trace ∷ []) (length events + 1) (omega (arith, many)) (omega (arith, many))
      (run_more first none sites sites' parcels parcels' (events ++ event ∷ []) traces (length events) event trace so_far (omega (arith, many)) (sym (get_or-append_seam events event [] event)) as_many there does tabled)

  pub run_on : IsRun first none sites' parcels' (events ++ event ∷ []) (traces ++ trace ∷ [])
  run_on = record { there = after.there; lawful = after.lawful; tallies = after.tallies; agrees = after.agrees; keep = after.keep }

pub leads_step : (old new : Play) (event : Happening) (trace : Trace) → new.events.items ≡ old.events.items ++ event ∷ [] → length new.world.sites.items ≡ length old.world.sites.items → StepDoes old.world new.world event 0 (Ok trace)
    → Tabled old.world.sites.items old.world.parcels.items new.world.sites.items new.world.parcels.items event trace → Leads old new (event ∷ []) (trace ∷ [])
leads_step old new event trace is as_many does tabled = record {
  as_many = as_many;
  events_are = is;
  runs = λ first none before p. subst (λ es. IsRun first none new.world.sites.items new.world.parcels.items es (before ++ trace ∷ [])) (sym is)
      (run_on first none old.world.sites.items new.world.sites.items old.world.parcels.items new.world.parcels.items old.events.items before event trace as_many does.0 does.1 tabled p);
}

-- sites that know nothing
pub opened : (histories : List History) (setups : List Setup) (play : Play) → setups ≡ setups_in histories → WorldOpens setups (Ok play.world) → Keep play.world.sites.items play.world.parcels.items (empty_tables (length setups)) → play.events.items ≡ [] → HasOpened histories play
opened histories setups play is opens keep none = record {
  setups = ap are_setups (sym is) ∙ opens.0;
  as_many = opens.1 ∙ ap length is ∙ length-map histories setup_of;
  events = none;
  runs = subst (λ (s : List Setup). IsRun (start s) (empty_tables (length s)) play.world.sites.items play.world.parcels.items [] []) is (record { there = tt; lawful = tt; tallies = tt; agrees = opens.2; keep = keep });
}

-- nothing is carried out
pub leads_none : (play : Play) → Leads play play [] []
leads_none play = record {
  as_many = refl;
  events_are = sym (append-nil play.events.items);
  runs = λ first none before p. subst (Plays first none play) (sym (append-nil before)) p;
}

-- one after the other
pub leads_both : (a b c : Play) (es fs : List Happening) (ts us : List Trace) → Leads a b es ts → Leads b c fs us → Leads a c (es ++ fs) (ts ++ us)
leads_both a b c es fs ts us x y = record {
  as_many = y.as_many ∙ x.as_many;
  events_are = y.events_are ∙ ap (λ l. l ++ fs) x.events_are ∙ append_assoc a.events.items es fs;
  runs = λ first none before p. subst (Plays first none c) (append_assoc before ts us) (y.runs first none (before ++ ts) (x.runs first none before p));
}

-- what is known and kept where it went on
module _ (old new : Play) (es : List Happening) (ts : List Trace) (leads : Leads old new es ts) (first : Known) (none : Tables) (before : List Trace) (p : Plays first none old before) where
  pub known_on : known first new.events.items (before ++ ts) ≡ known (known first old.events.items before) es ts
  known_on = ap (λ l. known first l (before ++ ts)) leads.events_are ∙ known_append first old.events.items before es ts p.lawful

  pub kept_on : kept first none new.events.items (before ++ ts) ≡ kept (known first old.events.items before) (kept first none old.events.items before) es ts
  kept_on = ap (λ l. kept first none l (before ++ ts)) leads.events_are ∙ kept_append first none old.events.items before es ts p.lawful

-- what follows where a test tells yes, and where it tells no
pub match_bool : {P Q R S : Type 0} (b : Bool) → MatchBool b P Q → (P → R) → (Q → S) → MatchBool b R S
match_bool true x f g = f x
match_bool false x f g = g x

pub match_true : {P : Type 0} (Q : Type 0) (b : Bool) → b ≡ true → MatchBool b P Q → P
match_true Q true e x = x
match_true Q false e x = absurd (true≢false (sym e))

pub if_ok : {X E : Type 0} {P Q : X → Type 0} (r : Result X E) → IfOk r P → ((x : X) → P x → Q x) → IfOk r Q
if_ok (Ok x) p f = f x p
if_ok (Err e) p f = tt

pub match_false : {Q : Type 0} (P : Type 0) (b : Bool) → b ≡ false → MatchBool b P Q → Q
match_false P true e x = absurd (true≢false e)
match_false P false e x = x

-- One event more of a schedule.
use Rattle.std.proofs.Common.{◌≡◌, ℕ, zero, suc, ◌+◌, ◌<◌, ◌≤◌, Bool, true, false, ◌&&◌, ◌||◌, Some, List, [], ◌∷◌, ◌++◌, length, take, refl, sym, ap, ◌∙◌, subst, subst₂, arith, true≢false, get_or}
use Rattle.std.proofs.lemmas.List.{take_more, take_all}
use Rattle.std.specs.List.{list_all, list_any}
use Rattle.std.proofs.lemmas.Option.{slice_get-get_or}
use Rattle.geo_delta.specs.declared.parcel.Parcel.{Parcel}
use Rattle.geo_site.specs.declared.site.Site.{Site}
use Rattle.geo_world.specs.declared.event.Event.{Event}
use Rattle.geo_world.specs.declared.event.Trace.{Trace}
use Rattle.geo_world.specs.Schedule.{Known, happens, known, Lawful, EachLawful}
use Rattle.geo_world.proofs.Serving.{lawful_more, known_more}
use Rattle.geo_world.specs.There.{is_there, is_in_time, all_in_time, EachThere}
use Rattle.geo_records.specs.Operations.{Operation, State, version_in, SameOperations}
use Rattle.geo_versions.proofs.Meaning.{state_same}
use Rattle.geo_site.specs.Sites.{state_in}
use Rattle.geo_world.proofs.Stepping.{state_version}
use Rattle.geo_world.specs.Tables.{Tables, kept_after, kept, Keep, Tallies, EachTallies, Tabled}
use Rattle.geo_world.specs.Running.{HasAllRun, wants_memory, Lacks}
use Rattle.geo_world.specs.Agreement.{SiteKnown, Stands, Agrees, ShowsVersions, SameVersions}

there_more : (n : ℕ) (w : Known) (es : List Event) (ts : List Trace) (e : Event) (t : Trace) → EachLawful w es ts → EachThere n w es ts → is_there n (length (known w es ts).sent) e ≡ true → EachThere n w (es ++ e ∷ []) (ts ++ t ∷ [])
there_more n w [] [] e t h l p = (p, tt)
there_more n w [] (u ∷ ts) e t h l p = absurd h
there_more n w (d ∷ es) [] e t h l p = absurd h
there_more n w (d ∷ es) (u ∷ ts) e t h l p = (l.0, there_more n (happens w d u) es ts e t h.1 l.1 p)

kept_more : (w : Known) (all : Tables) (es : List Event) (ts : List Trace) (e : Event) (t : Trace) → EachLawful w es ts → kept w all (es ++ e ∷ []) (ts ++ t ∷ []) ≡ kept_after (known w es ts) (kept w all es ts) e t
kept_more w all [] [] e t l = refl
kept_more w all [] (u ∷ ts) e t l = absurd l
kept_more w all (d ∷ es) [] e t l = absurd l
kept_more w all (d ∷ es) (u ∷ ts) e t l = kept_more (happens w d u) (kept_after w all d u) es ts e t l.1

tallies_more : (w : Known) (all : Tables) (es : List Event) (ts : List Trace) (e : Event) (t : Trace) → EachLawful w es ts → EachTallies w all es ts → Tallies (known w es ts) (kept w all es ts) e t → EachTallies w all (es ++ e ∷ []) (ts ++ t ∷ [])
tallies_more w all [] [] e t l h p = (p, tt)
tallies_more w all [] (u ∷ ts) e t l h p = absurd l
tallies_more w all (d ∷ es) [] e t l h p = absurd l
tallies_more w all (d ∷ es) (u ∷ ts) e t l h p = (h.0, tallies_more (happens w d u) (kept_after w all d u) es ts e t l.1 h.1 p)

-- what has been run so far: the traces of the first events
pub record HasRun (first : Known) (none : Tables) (sites : List Site) (parcels : List Parcel) (events : List Event) (traces : List Trace) (index : ℕ) : Type 0 where
  pub told : length traces ≡ index
  pub lawful : EachLawful first (take index events) traces
  pub there : EachThere (length sites) first (take index events) traces
  pub agrees : Agrees sites parcels (known first (take index events) traces)
  pub tallies : EachTallies first none (take index events) traces
  pub keep : Keep sites parcels (kept first none (take index events) traces)

module _ (first : Known) (none : Tables) (sites sites' : List Site) (parcels parcels' : List Parcel) (events : List Event) (traces : List Trace) (index : ℕ) (event : Event) (trace : Trace) (run : HasRun first none sites parcels events traces index)
    (lt : index < length events) (at : event ≡ get_or events index event) (as_many : length sites' ≡ length sites)
    (there : is_there (length sites) (length parcels) event ≡ true)
    (does : (w : Known) → Agrees sites parcels w → Lawful w event trace × Agrees sites' parcels' (happens w event trace)) (tabled : Tabled sites parcels sites' parcels' event trace) where
  more : take (index + 1) events ≡ take index events ++ event ∷ []
  more = take_more events index event lt ∙ ap (λ e. take index events ++ e ∷ []) (sym at)

  pub run_more : HasRun first none sites' parcels' events (traces ++ trace ∷ []) (index + 1)
  run_more =
      let w = known first (take index events) traces in
      let d = does w run.agrees in
      let all = kept first none (take index events) traces in
      let t = tabled w all run.agrees run.keep in
      record {
        told = Rattle.std.proofs.lemmas.List.length-append traces (trace ∷ []) ∙ ap (λ n. n + 1) run.told;
        lawful = subst (λ es. EachLawful first es (traces ++ trace ∷ [])) (sym more) (lawful_more first (take index events) traces event trace run.lawful d.0);
        there = subst₂ (λ (n : ℕ) (es : List Event). EachThere n first es (traces ++ trace ∷ [])) (sym as_many) (sym more)
            (there_more (length sites) first (take index events) traces event trace run.lawful run.there (ap (λ p. is_there (length sites) p event) run.agrees.as_many ∙ there));
        agrees = subst (λ v. Agrees sites' parcels' v) (sym (ap (λ es. known first es (traces ++ trace ∷ [])) more ∙ known_more first (take index events) traces event trace run.lawful)) d.1;
        tallies = subst (λ es. EachTallies first none es (traces ++ trace ∷ [])) (sym more) (tallies_more first none (take index events) traces event trace run.lawful run.tallies t.0);
        keep = subst (λ all. Keep sites' parcels' all) (sym (ap (λ es. kept first none es (traces ++ trace ∷ [])) more ∙ kept_more first none (take index events) traces event trace run.lawful)) t.1;
      }

-- the event that a run has come to is not there
pub lacks_at : (n : ℕ) (first : Known) (none : Tables) (sites : List Site) (parcels : List Parcel) (events : List Event) (traces : List Trace) (index : ℕ) (event : Event) → HasRun first none sites parcels events traces index → length sites ≡ n → index < length events → event ≡ get_or events index event
    → list_any wants_memory traces ≡ false → is_there (length sites) (length parcels) event ≡ false → Lacks n first events index
lacks_at n first none sites parcels events traces index event run many lt at spared missing = record {
  traces = traces;
  told = run.told;
  lawful = run.lawful;
  there = subst (λ n. EachThere n first (take index events) traces) many run.there;
  spared = spared;
  event = event;
  at = slice_get-get_or events index event lt ∙ ap Some (sym at);
  missing = ap (λ n. is_there n (length (known first (take index events) traces).sent) event) (sym many) ∙ ap (λ p. is_there (length sites) p event) run.agrees.as_many ∙ missing;
}

-- whether memory was wanted by one trace more
pub any_more : (ts : List Trace) (t : Trace) → list_any wants_memory (ts ++ t ∷ []) ≡ (list_any wants_memory ts || wants_memory t)
any_more [] t = by (wants_memory t)
  where
    by : (b : Bool) → (b || false) ≡ b
    by true = refl
    by false = refl
any_more (u ∷ ts) t = by (wants_memory u) (any_more ts t)
  where
    by : (b : Bool) → list_any wants_memory (ts ++ t ∷ []) ≡ (list_any wants_memory ts || wants_memory t) → (b || list_any wants_memory (ts ++ t ∷ [])) ≡ ((b || list_any wants_memory ts) || wants_memory t)
    by true h = refl
    by false h = h

-- each of the events is in time
pub in_time_at : (events : List Event) (i : ℕ) (event : Event) → all_in_time events ≡ true → i < length events → event ≡ get_or events i event → is_in_time event ≡ true
in_time_at [] i event h lt at = absurd (omega arith)
in_time_at (e ∷ es) zero event h lt at = ap is_in_time at ∙ (both (is_in_time e) (list_all is_in_time es) h).0
  where
    both : (a b : Bool) → a && b ≡ true → (a ≡ true) × (b ≡ true)
    both true b h = (refl, h)
    both false b h = absurd (true≢false (sym h))
in_time_at (e ∷ es) (suc i) event h lt at = in_time_at es i event (both (is_in_time e) (list_all is_in_time es) h).1 (omega arith) at
  where
    both : (a b : Bool) → a && b ≡ true → (a ≡ true) × (b ≡ true)
    both true b h = (refl, h)
    both false b h = absurd (true≢false (sym h))

pub first_run : (first : Known) (none : Tables) (sites : List Site) (parcels : List Parcel) (events : List Event) → Agrees sites parcels first → Keep sites parcels none → HasRun first none sites parcels events [] 0
first_run first none sites parcels events agrees keep = record { told = refl; lawful = tt; there = tt; agrees = agrees; tallies = tt; keep = keep }

-- all has been run
pub all_run : (first : Known) (none : Tables) (sites : List Site) (parcels : List Parcel) (events : List Event) (traces : List Trace) (index : ℕ) → length events ≤ index → index ≤ length events → HasRun first none sites parcels events traces index → HasAllRun first none sites parcels events traces
all_run first none sites parcels events traces index le ge run =
    let all = take_all index events le in
    record {
      told = let t = run.told in omega (arith, t);
      lawful = subst (λ es. EachLawful first es traces) all run.lawful;
      there = subst (λ es. EachThere (length sites) first es traces) all run.there;
      agrees = subst (λ es. Agrees sites parcels (known first es traces)) all run.agrees;
      tallies = subst (λ es. EachTallies first none es traces) all run.tallies;
      keep = subst (λ es. Keep sites parcels (kept first none es traces)) all run.keep;
    }

-- a site that is what it knows shows the versions that its operations name
pub shows : (n number : ℕ) (site : Site) (known : SiteKnown) → Stands n number site known → ShowsVersions site known.ops
shows n number site known st = record {
  floor = st.state.tells.floors;
  versions = λ key. state_version n number st.horizon (state_in site) known.ops known.held key st.state;
}

pub same_versions : (one other : Site) (ks ls : List Operation) → ShowsVersions one ks → ShowsVersions other ls → SameOperations ks ls → SameVersions one other
same_versions one other ks ls a b same =
    let e = state_same ks ls same in
    record {
      floor = a.floor ∙ ap (λ (s : State). s.0) e ∙ sym b.floor;
      versions = λ key. a.versions key ∙ ap (λ (s : State). version_in (s.1 key)) e ∙ sym (b.versions key);
    }

-- What a script has come to, where one more event happens.
use Rattle.std.proofs.Common.{◌≡◌, ℕ, ◌+◌, true, List, [], ◌∷◌, ◌++◌, length, take, get_or, Option, None, Some, Vec, Result, IfOk, Err, refl, sym, ap, subst, ◌∙◌, arith, length-append, Ok}
use Rattle.std.proofs.lemmas.List.{take_all, take-append-le}
use Rattle.std.specs.declared.alloc.Global.{Global}
use Rattle.geo_delta.specs.declared.parcel.Parcel.{Parcel}
use Rattle.geo_world.specs.Schedule.{Known, happens, known, Lawful, EachLawful}
use Rattle.geo_world.specs.declared.event.Event.{Event}
use Rattle.geo_world.specs.declared.event.Trace.{Trace}
use Rattle.geo_site.specs.declared.site.Site.{Site}
use Rattle.geo_world.proofs.Serving.{all_serve}
use Rattle.geo_world.proofs.Sound.{sound_nothing}
use Rattle.geo_world.specs.Agreement.{Agrees, StepDoes}
use Rattle.geo_world.specs.Setups.{start, limits_of}
use Rattle.geo_world.specs.Tables.{Tables, kept, Keep, EachTallies, Tabled}
use Rattle.geo_world.specs.There.{is_there, EachThere}
use Rattle.geo_world.specs.Running.{HasAllRun}
use Rattle.geo_world.proofs.Running.{HasRun, run_more, all_run}
use Rattle.geo_world.specs.Doing.{DoesAlone, EachAlone, RunsAlone}
use Rattle.geo_world.proofs.Alone.{each_more}
use Rattle.geo_world.proofs.Surviving.{survivors_stable}
use Rattle.geo_cluster.specs.Progress.{Progress, Runs, known_in, parcels_in, can_come, followed}
use Rattle.geo_cluster.specs.Prints.{trace_text}
use Rattle.geo_cluster.specs.Reads.{said_by}
use Rattle.geo_cluster.specs.declared.script.line.ScriptLine.{ScriptLine}
use Rattle.geo_cluster.specs.Sayings.{Said}
use Rattle.geo_cluster.specs.Effects.{can_carry, SaidDoes, Happens}
use Rattle.geo_cluster.specs.Standing.{Stands, Steps, EventDoes, PrintsEvent, CarriesOut, LineDoes}
use Rattle.geo_cluster.specs.Wants.{grows, WantsFor, ComesFor}
use Rattle.geo_cluster.specs.declared.script.cluster.Cluster.{Cluster}

last_is : (events : List Event) (event : Event) → event ≡ get_or (events ++ event ∷ []) (length events) event
last_is [] event = refl
last_is (e ∷ es) event = last_is es event

-- an event behind those of a run
run_on : (first : Known) (none : Tables) (sites sites' : List Site) (parcels parcels' : List Parcel) (events : List Event) (traces : List Trace) (event : Event) (trace : Trace)
    → HasAllRun first none sites parcels events traces → length sites' ≡ length sites → is_there (length sites) (length parcels) event ≡ true
    → ((w : Known) → Agrees sites parcels w → Lawful w event trace × Agrees sites' parcels' (happens w event trace)) → Tabled sites parcels sites' parcels' event trace
    → HasAllRun first none sites' parcels' (events ++ event ∷ []) (traces ++ trace ∷ [])
run_on first none sites sites' parcels parcels' events traces event trace run many there does tabled =
    let all = events ++ event ∷ [] in
    let n = length events in
    let longer : length all ≡ n + 1 = length-append events (event ∷ []) in
    let before : events ≡ take n all = sym (take-append-le n events (event ∷ []) (omega arith) ∙ take_all n events (omega arith)) in
    let has : HasRun first none sites parcels all traces n = record {
      told = run.told;
      lawful = subst (λ es. EachLawful first es traces) before run.lawful;
      there = subst (λ es. EachThere (length sites) first es traces) before run.there;
      agrees = subst (λ es. Agrees sites parcels (known first es traces)) before run.agrees;
      tallies = subst (λ es. EachTallies first none es traces) before run.tallies;
      keep = subst (λ es. Keep sites parcels (kept first none es traces)) before run.keep;
    } in
    all_run first none sites' parcels' all (traces ++ trace ∷ []) (n + 1) (omega (arith, longer)) (omega (arith, longer))
    (run_more first none sites sites' parcels parcels' all traces n event trace has (omega (arith, longer)) (last_is events event) many there does tabled)

-- before the first event
pub fresh_run : (first : Known) (none : Tables) (sites : List Site) (parcels : List Parcel) → Agrees sites parcels first → Keep sites parcels none → HasAllRun first none sites parcels [] []
fresh_run first none sites parcels agrees keep = record { told = refl; lawful = tt; there = tt; agrees = agrees; tallies = tt; keep = keep }

-- whatever a cluster stands at is that of a run
pub runs_of : (p : Progress) (cluster : Cluster) → Stands p cluster → Runs p.setups p.events p.traces
runs_of p cluster st = record {
  there = subst (λ n. EachThere n (start p.setups) p.events p.traces) st.sites st.run.there;
  lawful = st.run.lawful;
  tallies = st.run.tallies;
  serves = all_serve (start p.setups) p.events p.traces (sound_nothing (length p.setups) (limits_of p.setups)) st.run.lawful;
  survivors = survivors_stable (length p.setups) (limits_of p.setups) p.events p.traces st.run.lawful;
  sites = cluster.world.sites.items;
  alone = st.alone;
}

-- an event can come where its sites and its parcel are there
pub comes_as : (p : Progress) (cluster : Cluster) (event : Event) → Stands p cluster → can_come p event ≡ is_there (length cluster.world.sites.items) (length cluster.world.parcels.items) event
comes_as p cluster event st = ap (λ n. is_there n (parcels_in p) event) (sym st.sites) ∙ ap (λ k. is_there (length cluster.world.sites.items) k event) st.run.agrees.as_many

-- an event that memory was wanted for can come
pub comes_for : (old : Cluster) (event : Event) → is_there (length old.world.sites.items) (length old.world.parcels.items) event ≡ true → ComesFor old event
comes_for old event there p st = comes_as p old event st ∙ there

-- a line that is an event, and for which something grows
pub wants_event : (old : Cluster) (line : Said) (event : Event) → grows line ≡ true → ((p : Progress) → Stands p old → can_carry p line ≡ can_come p event) → ComesFor old event → WantsFor old line
wants_event old line event grown can comes = (grown, λ p st. can p st ∙ comes p st)

-- a step of the world is one of the cluster
pub steps_on : (old new : Cluster) (event : Event) (trace : Trace) → new.moment ≡ old.moment → new.connections ≡ old.connections → length new.world.sites.items ≡ length old.world.sites.items
    → StepDoes old.world new.world event 0 (Ok trace) → Tabled old.world.sites.items old.world.parcels.items new.world.sites.items new.world.parcels.items event trace → DoesAlone old.world.sites.items new.world.sites.items event trace → Steps old event (Some trace) new
steps_on old new event trace moment connections many does tabled alone p st = (
  comes_as p old event st ∙ does.0,
  (does.1 (known_in p) st.run.agrees).0,
  record {
    moment = moment ∙ st.moment;
    connections = ap (λ cs. cs.items) connections ∙ st.connections;
    clients = st.clients;
    sites = many ∙ st.sites;
    run = run_on _ _ old.world.sites.items new.world.sites.items old.world.parcels.items new.world.parcels.items p.events p.traces event trace st.run many does.0 does.1 tabled;
    alone = record {
      first = st.alone.first;
      many = st.alone.many;
      opened = st.alone.opened;
      each = each_more st.alone.first old.world.sites.items new.world.sites.items p.events p.traces event trace st.alone.each alone;
    };
  },
)

-- what came of a step is printed
pub prints_step : (old new : Cluster) (event : Event) (outcome : Option Trace) (trace : Trace) (parcels : ℕ) (text : List ℕ) → outcome ≡ Some trace → Steps old event outcome new
    → parcels ≡ length old.world.parcels.items → trace_text parcels trace ≡ Some text → (p : Progress) → Stands p old → PrintsEvent p event text new
prints_step old new event outcome trace parcels text is steps many prints p st =
    let s = subst (λ (o : Option Trace). Steps old event o new) is steps p st in
    record {
      progress = followed p event trace;
      comes = s.0;
      happens = record {
        trace = trace;
        prints = ap (λ n. trace_text n trace) (st.run.agrees.as_many ∙ sym many) ∙ prints;
        rest = refl;
      };
      stands = s.2;
    }

-- a line that is an event
pub record IsEventLine (p : Progress) (line : Said) (event : Event) : Type 0 where
  pub can : can_carry p line ≡ can_come p event
  pub carries : (text : List ℕ) (q : Progress) → Happens p event text q → SaidDoes p line text q

-- whatever comes of the event comes of the line
pub line_is : {E : Type 0} (old new : Cluster) (line : ScriptLine) (said : Said) (event : Event) (result : Result (Option (Vec ℕ Global)) E) → said_by line ≡ said → ((p : Progress) → Stands p old → IsEventLine p said event)
    → IfOk result (λ o. EventDoes old event o new) → IfOk result (λ o. LineDoes old (said_by line) o new)
line_is old new line said event (Err e) says is h = tt
line_is old new line said event (Ok None) says is h = λ p st. ap (λ l. can_carry p l) says ∙ (is p st).can ∙ h p st
line_is old new line said event (Ok (Some text)) says is h = λ p st.
    let is_line = is p st in
    let e = h p st in
    subst (λ l. CarriesOut p l text.items new) (sym says) (record { progress = e.progress; can = is_line.can ∙ e.comes; carries = is_line.carries text.items e.progress e.happens; stands = e.stands })

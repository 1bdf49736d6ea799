-- Runs of several sites: turns with the steps of their histories, and the events and traces that these are to a schedule.
use Rattle.std.specs.Prelude.{◌≡◌, ◌≢◌, ◌↔◌, IsTrue, ℕ, ◌+◌, ◌≤◌, ◌==◌, if◌then◌else◌, Bool, true, false, List, [], ◌∷◌, ◌++◌, length, map, take, Option, None, Some, slice_get, slice_index}
use Rattle.std.specs.List.{All}
use Rattle.geo_slabs.specs.Storage.{IsClassOf}
use Rattle.geo_stamp.specs.Vectors.{vector_joined}
use Rattle.geo_records.specs.Operations.{latest, version_of}
use Rattle.geo_records.specs.declared.version.Version.{Version}
use Rattle.geo_delta.specs.declared.parcel.Parcel.{Parcel}
use Rattle.geo_requests.specs.declared.request.Request.{Request}
use Rattle.geo_requests.specs.declared.request.Request.TheVariants.{Store, Arith}
use Rattle.geo_requests.specs.declared.request.Verb.TheVariants.{Append, Prepend}
use Rattle.geo_requests.specs.declared.reply.Reply.{Reply}
use Rattle.geo_requests.specs.declared.reply.Reply.TheVariants.{Stored, Number, OutOfMemory}
use Rattle.geo_site.specs.declared.setup.Setup.{Setup}
use Rattle.geo_site.specs.declared.site.Site.{Site}
use Rattle.geo_site.specs.declared.exchange.Taken.{Taken}
use Rattle.geo_site.specs.declared.refusal.SendError.TheVariants as send_errors
use Rattle.geo_site.specs.declared.refusal.TakeError.TheVariants as take_errors
use Rattle.geo_site.specs.declared.refusal.ReapError.TheVariants as reap_errors
use Rattle.geo_site.specs.declared.refusal.RetireError.TheVariants as retire_errors
use Rattle.geo_world.specs.declared.event.Event.{Event as Happening}
use Rattle.geo_world.specs.declared.event.Event.TheVariants as at
use Rattle.geo_world.specs.declared.event.Trace.{Trace}
use Rattle.geo_world.specs.declared.event.Trace.TheVariants as came
use Rattle.geo_site.specs.Entries.{Held, flushes_due}
use Rattle.geo_site.specs.Machine.{IsHeldCount}
use Rattle.geo_world.specs.Served.{NoCollision, AllServe}
use Rattle.geo_world.specs.Schedule.{Known, known, EachLawful}
use Rattle.geo_history.specs.declared.history.History.{History}
use Rattle.geo_site.specs.declared.event.Event.{Event}
use Rattle.geo_site.specs.declared.event.Event.TheVariants.{Command, Evict, Send, Take, Remove, Tick, Reap, Fill, Retire}
use Rattle.geo_site.specs.declared.event.Answer.{Answer}
use Rattle.geo_site.specs.declared.event.Answer.TheVariants.{Replied, Evicted, Sent, SendRefused, Taken as Took, TakeRefused, Removed, Ticked, Reaped, ReapRefused, Filled as FilledAs, Retired, RetireRefused}
use Rattle.geo_history.specs.declared.step.Step.{Step}
use Rattle.geo_world.specs.Setups.{are_setups, start}
use Rattle.geo_world.specs.There.{is_in_time, EachThere}
use Rattle.geo_world.specs.Agreement.{Carries as TellsOf, Agrees, ShowsVersions}
use Rattle.geo_site.specs.Tables.{brought_at, brought_in}
use Rattle.geo_world.specs.Tables.{Tables, empty_tables, kept, Keep, EachTallies}

-- a turn: a site takes a step. A parcel that is taken has this number among those that were made, and this came of the event
pub record Turn : Type 0 where
  pub site : ℕ
  pub step : Step
  pub number : ℕ
  pub trace : Trace

abbrev pub turn_of : ℕ → ℕ → Step → Trace → Turn
turn_of site number step trace = record { site = site; step = step; number = number; trace = trace }

-- the steps of one site in a run, in order
abbrev pub steps_at : ℕ → List Turn → List Step
steps_at site [] = []
steps_at site (t ∷ run) = if t.site == site then t.step ∷ steps_at site run else steps_at site run

-- the parcel that was made, if any
abbrev pub parcel_in : Answer → Option Parcel
parcel_in (Sent parcel) = Some parcel
parcel_in answer = None

abbrev pub listed : Option Parcel → List Parcel
listed None = []
listed (Some parcel) = parcel ∷ []

-- the parcels that a run made, in order
abbrev pub sent_in : List Turn → List Parcel
sent_in [] = []
sent_in (t ∷ run) = listed (parcel_in t.step.answer) ++ sent_in run

-- what was asked of a site, as a schedule has it: with the site, and a parcel by its number
abbrev pub event_of : ℕ → ℕ → Event → Happening
event_of site number (Command now request) = at.Command site now request
event_of site number (Evict key) = at.Evict site key
event_of site number (Send to) = at.Send site to
event_of site number (Take parcel) = at.Take site number
event_of site number Remove = at.Remove site
event_of site number (Tick now) = at.Tick site now
event_of site number (Reap now key) = at.Reap site now key
event_of site number (Fill key bytes) = at.Fill site key bytes
event_of site number (Retire other) = at.Retire site other

-- the bytes of a recorded victim are evicted first, as an event of its own
abbrev pub lets_go : ℕ → Option (List ℕ) → List Happening
lets_go site None = []
lets_go site (Some victim) = at.Evict site victim ∷ []

abbrev pub gone : Option (List ℕ) → List Trace
gone None = []
gone (Some victim) = came.Evicted true ∷ []

-- the events of a turn and of a run, and what came of them
abbrev pub events_of : Turn → List Happening
events_of t = lets_go t.site t.step.victim ++ event_of t.site t.number t.step.event ∷ []

abbrev pub traces_of : Turn → List Trace
traces_of t = gone t.step.victim ++ t.trace ∷ []

abbrev pub events_in : List Turn → List Happening
events_in [] = []
events_in (t ∷ run) = events_of t ++ events_in run

abbrev pub traces_in : List Turn → List Trace
traces_in [] = []
traces_in (t ∷ run) = traces_of t ++ traces_in run

-- the parcel that is taken, if any, is the one with this number of those that were made
abbrev pub TakesNumbered : List Parcel → ℕ → Event → Type 0
TakesNumbered sent number (Take parcel) = slice_get sent number ≡ Some parcel
TakesNumbered sent number event = Unit {0}

-- where these parcels were made before
abbrev pub EachTakesNumbered : List Parcel → List Turn → Type 0
EachTakesNumbered sent [] = Unit {0}
EachTakesNumbered sent (t ∷ run) = TakesNumbered sent t.number t.step.event × EachTakesNumbered (sent ++ listed (parcel_in t.step.answer)) run

-- the recorded answer is what came of the event; a store evicted nothing itself
abbrev pub IsToldBy : Trace → Answer → Type 0
IsToldBy (came.Replied reply victim) (Replied told) = (reply ≡ told) × (victim ≡ None)
IsToldBy (came.Evicted done) (Evicted told) = done ≡ told
IsToldBy came.Sent (Sent parcel) = Unit {0}
IsToldBy (came.SendRefused why) (SendRefused told) = why ≡ told
IsToldBy came.Taken (Took told) = Unit {0}
IsToldBy (came.TakeRefused why) (TakeRefused told) = why ≡ told
IsToldBy (came.Removed horizon count) (Removed told) = count ≡ told
IsToldBy (came.Ticked done) (Ticked told) = done ≡ told
IsToldBy (came.Reaped done) (Reaped told) = done ≡ told
IsToldBy (came.ReapRefused why) (ReapRefused told) = why ≡ told
IsToldBy (came.Filled filled) (FilledAs told) = filled ≡ told
IsToldBy (came.Retired fresh) (Retired told) = fresh ≡ told
IsToldBy (came.RetireRefused why) (RetireRefused told) = why ≡ told
IsToldBy trace answer = ⊥

-- memory was not wanted
abbrev pub IsSaid : Trace → Type 0
IsSaid (came.Replied reply victim) = reply ≢ OutOfMemory
IsSaid (came.SendRefused why) = why ≢ send_errors.Memory
IsSaid (came.TakeRefused why) = why ≢ take_errors.Memory
IsSaid (came.ReapRefused why) = why ≢ reap_errors.Memory
IsSaid (came.RetireRefused why) = why ≢ retire_errors.Memory
IsSaid came.FillRefused = ⊥
IsSaid trace = Unit {0}

-- the key under which a request that was answered so stored bytes
abbrev pub stored_under : Request → Reply → Option (List ℕ)
stored_under (Store verb key flags exptime unique bytes noreply) Stored = Some key
stored_under (Arith up key by noreply) (Number n) = Some key
stored_under request reply = None

abbrev pub StoresBeside : Option (List ℕ) → List ℕ → Type 0
StoresBeside (Some key) victim = key ≢ victim
StoresBeside None victim = ⊥

-- where a command has a victim, it stored bytes under another key
abbrev pub MayEvict : Request → Answer → Option (List ℕ) → Type 0
MayEvict request answer None = Unit {0}
MayEvict request (Replied reply) (Some victim) = StoresBeside (stored_under request reply) victim
MayEvict request answer (Some victim) = ⊥

abbrev pub IsBare : Option (List ℕ) → Option (List ℕ × ℕ) → Type 0
IsBare victim made = (victim ≡ None) × (made ≡ None)

-- only a command has a victim, or makes bytes of older ones, and a tick is recorded where it carried out a flush
abbrev pub IsPlain : Event → Answer → Option (List ℕ) → Option (List ℕ × ℕ) → Type 0
IsPlain (Command now request) answer victim made = MayEvict request answer victim
IsPlain (Evict key) answer victim made = IsBare victim made
IsPlain (Send to) answer victim made = IsBare victim made
IsPlain (Take parcel) answer victim made = IsBare victim made
IsPlain Remove answer victim made = IsBare victim made
IsPlain (Tick now) answer victim made = (answer ≡ Ticked true) × IsBare victim made
IsPlain (Reap now key) answer victim made = IsBare victim made
IsPlain (Fill key bytes) answer victim made = IsBare victim made
IsPlain (Retire other) answer victim made = IsBare victim made

-- whether the moment of an event, if it has one, is one of a schedule
abbrev pub is_timely : Event → Bool
is_timely event = is_in_time (event_of 0 0 event)

-- a step is at such a moment, and tells of nothing that its event can't have
pub record IsPlainStep (step : Step) : Type 0 where
  pub timely : is_timely step.event ≡ true
  pub plain : IsPlain step.event step.answer step.victim step.made

-- a turn tells what came of its event
pub record IsTold (t : Turn) : Type 0 where
  pub answer : IsToldBy t.trace t.step.answer
  pub said : IsSaid t.trace
  pub plain : IsPlainStep t.step

-- no flush is due
abbrev pub IsUndue : Known → ℕ → ℕ → Type 0
IsUndue w site now = flushes_due (w.waiting site) (latest (w.at site)) now ≡ false

-- nor before a request or a reap: it was to be a step of its own
abbrev pub Undue : Known → ℕ → Event → Type 0
Undue w site (Command now request) = IsUndue w site now
Undue w site (Reap now key) = IsUndue w site now
Undue w site event = Unit {0}

-- a parcel that a site makes for another: it tells what the site knows and the base does not, and brings what the site keeps and did
-- not hear the other to know
pub record IsMade (w : Known) (all : Tables) (site to : ℕ) (parcel : Parcel) : Type 0 where
  pub tells : TellsOf w.sites w.at parcel (record { from = site; to = to; set = w.sets site; ops = w.at site })
  pub brings : brought_in parcel ≡ brought_at site to (all.at site)

abbrev pub Brings : Known → Tables → ℕ → Event → Answer → Type 0
Brings w all site (Send to) (Sent parcel) = IsMade w all site to parcel
Brings w all site event answer = Unit {0}

-- what a take tells: whether the vector rose, and how many values are held no longer
pub record TellsTake (vector upto : List ℕ) (old new : Held) (told : Taken) : Type 0 where
  pub rose : IsTrue told.rose ↔ (vector_joined vector upto ≢ vector)
  pub before : ℕ
  pub after : ℕ
  pub held_before : IsHeldCount old before
  pub held_after : IsHeldCount new after
  pub dropped : after + told.dropped ≡ before

-- what a command made of older bytes is what the site names then
abbrev pub named_in : Option Version → Option (List ℕ × ℕ)
named_in None = None
named_in (Some v) = Some (v.digest, v.length)

abbrev pub made_at : (List ℕ → Option Version) → Request → Reply → Option (List ℕ × ℕ)
made_at versions (Store Append key flags exptime unique bytes noreply) Stored = named_in (versions key)
made_at versions (Store Prepend key flags exptime unique bytes noreply) Stored = named_in (versions key)
made_at versions (Arith up key by noreply) (Number n) = named_in (versions key)
made_at versions request reply = None

-- a victim's bytes were of the slab class of what was stored, by the versions of both
pub record IsOneClass (one two : ℕ) : Type 0 where
  pub class : ℕ
  pub of_one : IsClassOf one class
  pub of_two : IsClassOf two class

abbrev pub NamedAlike : Option Version → Option Version → Type 0
NamedAlike (Some one) (Some two) = IsOneClass one.length two.length
NamedAlike one two = ⊥

abbrev pub Alike : (List ℕ → Option Version) → Option (List ℕ) → Option (List ℕ) → Type 0
Alike versions key None = Unit {0}
Alike versions (Some key) (Some victim) = NamedAlike (versions key) (versions victim)
Alike versions None (Some victim) = ⊥

-- what a step tells beside its answer, where this was known and held before, and is held and named after
abbrev pub TellsBeside : List ℕ → Held → Held → (List ℕ → Option Version) → Event → Answer → Option (List ℕ) → Option (List ℕ × ℕ) → Type 0
TellsBeside vector old new versions (Command now request) (Replied reply) victim made = (made ≡ made_at versions request reply)
    × Alike versions (stored_under request reply) victim
TellsBeside vector old new versions (Take parcel) (Took told) victim made = TellsTake vector parcel.upto old new told
TellsBeside vector old new versions event answer victim made = Unit {0}

-- what is recorded fits what is known and kept before a turn, also with its victim evicted, and what is known after it
pub record Fits (w : Known) (all : Tables) (v : Known) (t : Turn) : Type 0 where
  pub undue : Undue w t.site t.step.event
  pub brings : Brings (known w (lets_go t.site t.step.victim) (gone t.step.victim)) all t.site t.step.event t.step.answer
  pub beside : TellsBeside (all.at t.site).vector ((known w (lets_go t.site t.step.victim) (gone t.step.victim)).held t.site)
      (v.held t.site) (version_of (v.at t.site)) t.step.event t.step.answer t.step.victim t.step.made

abbrev pub EachFits : Known → Tables → List Turn → Type 0
EachFits w all [] = Unit {0}
EachFits w all (t ∷ run) = Fits w all (known w (events_of t) (traces_of t)) t
    × EachFits (known w (events_of t) (traces_of t)) (kept w all (events_of t) (traces_of t)) run

-- events lead from where nothing was known to these sites and parcels, with these traces: each is there and lawful, and in the end
-- sites and parcels are what is known and kept
pub record IsRun (first : Known) (none : Tables) (sites : List Site) (parcels : List Parcel) (events : List Happening)
    (traces : List Trace) : Type 0 where
  pub there : EachThere (length sites) first events traces
  pub lawful : EachLawful first events traces
  pub tallies : EachTallies first none events traces
  pub agrees : Agrees sites parcels (known first events traces)
  pub keep : Keep sites parcels (kept first none events traces)

-- what sites were told at their start, and what is known and kept then
abbrev pub setup_of : History → Setup
setup_of history = history.setup

abbrev pub setups_in : List History → List Setup
setups_in = map setup_of

abbrev pub first_of : List History → Known
first_of histories = start (setups_in histories)

abbrev pub none_of : List History → Tables
none_of histories = empty_tables (length (setups_in histories))

abbrev pub IsOneOf : List History → Turn → Type 0
IsOneOf histories t = (1 ≤ t.site) × (t.site ≤ length histories)

-- a run takes so many steps of each history, in order: it is lawful over sites of these setups, each step tells what came of it, and
-- each parcel that is taken, also by a refused take, was made by an earlier turn. In the end these are sites and parcels
pub record Takes (histories : List History) (counts : List ℕ) (sites : List Site) (parcels : List Parcel) (run : List Turn) : Type 0 where
  pub setups : are_setups (setups_in histories) ≡ true
  pub as_many : length sites ≡ length histories
  pub runs : IsRun (first_of histories) (none_of histories) sites parcels (events_in run) (traces_in run)
  pub told : All IsTold run
  pub fits : EachFits (first_of histories) (none_of histories) run
  pub carries : EachTakesNumbered [] run
  pub own : All (IsOneOf histories) run
  pub many : length counts ≡ length histories
  pub within : (k : ℕ) (h : History) → slice_get histories k ≡ Some h → slice_index counts k ≤ length h.steps.items
  pub taken : (k : ℕ) (h : History) → slice_get histories k ≡ Some h → steps_at (k + 1) run ≡ take (slice_index counts k) h.steps.items

-- a schedule is that of a lawful run of all steps of the histories of sites 1, 2 and so on. In the end each site's floor and versions are
-- those of the operations that it knows, and each value that was served is what the operation wrote whose stamp its version has, unless
-- two values have one SHA-256
pub record Interleaves (schedule : List Happening) (histories : List History) : Type 0 where
  pub counts : List ℕ
  pub sites : List Site
  pub parcels : List Parcel
  pub run : List Turn
  pub takes : Takes histories counts sites parcels run
  pub events : schedule ≡ events_in run
  pub whole : (k : ℕ) (h : History) → slice_get histories k ≡ Some h → steps_at (k + 1) run ≡ h.steps.items
  pub versions : (k : ℕ) (site : Site) → slice_get sites k ≡ Some site
      → ShowsVersions site ((known (first_of histories) schedule (traces_in run)).at (k + 1))
  pub served : NoCollision (known (first_of histories) schedule (traces_in run)) schedule → AllServe (first_of histories) schedule (traces_in run)

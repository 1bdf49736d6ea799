-- What each site keeps along a schedule, by the events and their traces alone.
use Rattle.std.specs.Prelude.{◌≡◌, ℕ, ◌+◌, cond, if◌then◌else◌, ◌==◌, Bool, true, false, List, [], ◌∷◌, ◌++◌, length, Option, None, Some, slice_get, slice_index_or}
use Rattle.geo_records.specs.Operations.{Act, Record, latest}
use Rattle.geo_delta.specs.declared.parcel.Parcel.{Parcel}
use Rattle.geo_requests.specs.declared.request.Request.{Request}
use Rattle.geo_requests.specs.declared.reply.Reply.{Reply}
use Rattle.geo_requests.specs.declared.reply.Reply.TheVariants.{ClockEnded}
use Rattle.geo_site.specs.declared.site.Site.{Site}
use Rattle.geo_world.specs.declared.event.Event.{Event}
use Rattle.geo_world.specs.declared.event.Event.TheVariants.{Command, Send, Take, Remove, Tick, Reap, Retire}
use Rattle.geo_world.specs.declared.event.Trace.{Trace}
use Rattle.geo_world.specs.declared.event.Trace.TheVariants.{Replied, Sent, Taken, Removed, Ticked, Reaped, ReapRefused, Retired}
use Rattle.geo_site.specs.Entries.{Answers, due_acts, is_stuck, is_done}
use Rattle.geo_site.specs.Machine.{IsRecordCount, IsHeldCount}
use Rattle.geo_site.specs.Tables.{Table, Brought, empty_table, brings_nothing, horizon_at, issue_all_at, take_at, remove_at, retire_at, brought_at, table_in, brought_in}
use Rattle.geo_world.specs.declared.world.World.{World}
use Rattle.geo_world.specs.Agreement.{Agrees}
use Rattle.geo_world.specs.Schedule.{Known, basis, happens, flushed, issues_on, reaps_on}

-- what every site keeps, and what each parcel brings
pub record Tables : Type 0 where
  pub at : ℕ → Table
  pub sent : List Brought

abbrev pub empty_tables : ℕ → Tables
empty_tables sites = record { at = λ _. empty_table sites; sent = [] }

-- a site keeps this now
abbrev pub keeps : Tables → ℕ → Table → Tables
keeps all site t = record { at = λ q. if q == site then t else all.at q; sent = all.sent }

-- a site has issued operations
abbrev pub issued_at : Tables → ℕ → List Act → Tables
issued_at all site acts = keeps all site (issue_all_at site acts (all.at site))

-- a site has carried out a flush that was due
abbrev pub flushed_at : Known → Tables → ℕ → ℕ → Tables
flushed_at w all site now = issued_at all site (due_acts (w.waiting site) (latest (w.at site)) now)

-- what is kept after an event
abbrev pub kept_after : Known → Tables → Event → Trace → Tables
kept_after w all (Command site now request) (Replied reply victim) =
    let mid = flushed_at w all site now in
    cond (is_done reply) (issued_at mid site (issues_on (flushed w site now) site now request)) mid
kept_after w all (Send site to) Sent = record { at = all.at; sent = all.sent ++ brought_at site to (all.at site) ∷ [] }
kept_after w all (Take site parcel) Taken = keeps all site (take_at site (slice_index_or all.sent parcel brings_nothing) (all.at site))
kept_after w all (Remove site) (Removed horizon count) = keeps all site (remove_at site (all.at site))
kept_after w all (Tick site now) (Ticked done) = flushed_at w all site now
kept_after w all (Reap site now key) (Reaped done) = issued_at (flushed_at w all site now) site (reaps_on (flushed w site now) site now key)
kept_after w all (Reap site now key) (ReapRefused why) = flushed_at w all site now
kept_after w all (Retire site other) (Retired fresh) = keeps all site (retire_at site other (all.at site))
kept_after w all event trace = all

-- what is kept after a schedule with its trace
abbrev pub kept : Known → Tables → List Event → List Trace → Tables
kept w all [] traces = all
kept w all (event ∷ events) [] = all
kept w all (event ∷ events) (trace ∷ traces) = kept (happens w event trace) (kept_after w all event trace) events traces

pub record Keep (sites : List Site) (parcels : List Parcel) (all : Tables) : Type 0 where
  pub each : (k number : ℕ) (site : Site) → number ≡ k + 1 → slice_get sites k ≡ Some site → table_in site ≡ all.at number
  pub as_many : length all.sent ≡ length parcels
  pub each_sent : (p : ℕ) (parcel : Parcel) → slice_get parcels p ≡ Some parcel
      → brought_in parcel ≡ slice_index_or all.sent p brings_nothing

-- the reply is what a site owes to the request that keeps this, or want of memory where it may be wanted
pub record OwesOver (w : Known) (kept : List ℕ → Record) (site now : ℕ) (request : Request) (reply : Reply) : Type 0 where
  pub records : ℕ
  pub items : ℕ
  pub recorded : IsRecordCount kept records
  pub held : IsHeldCount (w.held site) items
  pub answers : Answers now (basis w site now kept records items) request reply

-- where no stamp is left for a flush that is due, all that it says is that its clock has ended
abbrev pub OwesBy : Bool → Known → (List ℕ → Record) → ℕ → ℕ → Request → Reply → Type 0
OwesBy true w kept site now request reply = reply ≡ ClockEnded
OwesBy false w kept site now request reply = OwesOver w kept site now request reply

-- so many fewer keys have a register
pub record CountsDropped (before after : List ℕ → Record) (count : ℕ) : Type 0 where
  pub many : ℕ
  pub left : ℕ
  pub was : IsRecordCount before many
  pub is : IsRecordCount after left
  pub dropped : left + count ≡ many

-- a reply is owed over what its site keeps after a due flush, and a removal goes by its site's own horizon and tells how many it dropped
abbrev pub Tallies : Known → Tables → Event → Trace → Type 0
Tallies w all (Command site now request) (Replied reply victim) =
    OwesBy (is_stuck (w.waiting site) (latest (w.at site)) now) (flushed w site now)
    ((flushed_at w all site now).at site).kept site now request reply
Tallies w all (Remove site) (Removed horizon count) = (horizon ≡ horizon_at site (all.at site))
    × CountsDropped (all.at site).kept (remove_at site (all.at site)).kept count
Tallies w all event trace = Unit {0}

abbrev pub EachTallies : Known → Tables → List Event → List Trace → Type 0
EachTallies w all [] traces = Unit {0}
EachTallies w all (event ∷ events) [] = Unit {0}
EachTallies w all (event ∷ events) (trace ∷ traces) = Tallies w all event trace
    × EachTallies (happens w event trace) (kept_after w all event trace) events traces

-- where sites and parcels are what is known and kept, an event tallies and leaves them so
abbrev pub Tabled : List Site → List Parcel → List Site → List Parcel → Event → Trace → Type 0
Tabled sites parcels later more event trace =
    (w : Known) (all : Tables) → Agrees sites parcels w → Keep sites parcels all
    → Tallies w all event trace × Keep later more (kept_after w all event trace)

abbrev pub TabledIn : World → World → Event → Trace → Type 0
TabledIn old new event trace = Tabled old.sites.items old.parcels.items new.sites.items new.parcels.items event trace

-- How a step is not what comes next.
use Rattle.std.specs.Prelude.{◌≡◌, ◌≢◌, ◌⊎◌, ◌↔◌, IsTrue, ℕ, ◌+◌, ◌<◌, false, List, length, Option, None, Some}
use Rattle.geo_slabs.specs.Storage.{IsClassOf}
use Rattle.geo_stamp.specs.Vectors.{vector_joined}
use Rattle.geo_records.specs.Operations.{version_of}
use Rattle.geo_requests.specs.Limits.{longest_value}
use Rattle.geo_records.specs.declared.version.Version.{Version}
use Rattle.geo_delta.specs.declared.parcel.Parcel.{Parcel}
use Rattle.geo_world.specs.declared.event.Event.{Event as Happening}
use Rattle.geo_world.specs.declared.event.Event.TheVariants as at
use Rattle.geo_world.specs.declared.event.Trace.{Trace}
use Rattle.geo_world.specs.declared.event.Trace.TheVariants as came
use Rattle.geo_site.specs.declared.fill.Filled.TheVariants.{Full, Done}
use Rattle.geo_site.specs.Entries.{Held}
use Rattle.geo_site.specs.Machine.{IsHeldCount}
use Rattle.geo_world.specs.Schedule.{Known, happens, known, Lawful}
use Rattle.geo_site.specs.declared.event.Event.{Event}
use Rattle.geo_site.specs.declared.event.Event.TheVariants.{Command, Send, Take}
use Rattle.geo_site.specs.declared.event.Answer.{Answer}
use Rattle.geo_site.specs.declared.event.Answer.TheVariants.{Replied, Sent, Taken as Took, Filled as FilledAs}
use Rattle.geo_history.specs.declared.step.Step.{Step}
use Rattle.geo_world.specs.There.{is_there}
use Rattle.geo_world.specs.Tables.{Tables, kept, Tallies}
use Rattle.geo_audit.specs.Runs.{event_of, lets_go, gone, stored_under, made_at, IsMade, Undue, IsPlainStep, IsToldBy, IsSaid}

-- the recorded victim is not held
abbrev pub Unheld : Known → ℕ → Option (List ℕ) → Type 0
Unheld w site (Some victim) = w.held site victim ≡ None
Unheld w site None = ⊥

-- another parcel is made than this
pub record MakesOther (w : Known) (all : Tables) (site to : ℕ) (parcel : Parcel) : Type 0 where
  pub made : Parcel
  pub is : IsMade w all site to made
  pub other : made ≢ parcel

abbrev pub BringsOther : Known → Tables → ℕ → Event → Answer → Type 0
BringsOther w all site (Send to) (Sent parcel) = MakesOther w all site to parcel
BringsOther w all site event answer = ⊥

-- another number of values is held no longer
pub record DropsOther (old new : Held) (dropped : ℕ) : Type 0 where
  pub before : ℕ
  pub after : ℕ
  pub held_before : IsHeldCount old before
  pub held_after : IsHeldCount new after
  pub other : after + dropped ≢ before

-- a victim is of another slab class, or one of both has no version, or one that is too long for a class
pub record TwoClasses (one two : ℕ) : Type 0 where
  pub of_one : ℕ
  pub of_two : ℕ
  pub is_one : IsClassOf one of_one
  pub is_two : IsClassOf two of_two
  pub other : of_one ≢ of_two

abbrev pub OtherClass : ℕ → ℕ → Type 0
OtherClass one two = (longest_value < one) ⊎ ((longest_value < two) ⊎ TwoClasses one two)

abbrev pub NamedUnlike : Option Version → Option Version → Type 0
NamedUnlike (Some one) (Some two) = OtherClass one.length two.length
NamedUnlike one two = Unit {0}

abbrev pub Unlike : (List ℕ → Option Version) → Option (List ℕ) → Option (List ℕ) → Type 0
Unlike versions key None = ⊥
Unlike versions (Some key) (Some victim) = NamedUnlike (versions key) (versions victim)
Unlike versions None (Some victim) = Unit {0}

-- what a step tells beside its answer is not so
abbrev pub OtherBeside : List ℕ → Held → Held → (List ℕ → Option Version) → Event → Answer → Option (List ℕ) → Option (List ℕ × ℕ) → Type 0
OtherBeside vector old new versions (Command now request) (Replied reply) victim made = (made ≢ made_at versions request reply)
    ⊎ Unlike versions (stored_under request reply) victim
OtherBeside vector old new versions (Take parcel) (Took told) victim made =
    ((IsTrue told.rose ↔ (vector_joined vector parcel.upto ≢ vector)) → ⊥) ⊎ DropsOther old new told.dropped
OtherBeside vector old new versions event answer victim made = ⊥

-- nothing that can come of the event, where memory is at hand, is what the answer tells
abbrev pub NoneTells : Known → Tables → Happening → Answer → Type 0
NoneTells w all happening answer = (other : Trace) → Lawful w happening other → Tallies w all happening other → IsSaid other
    → IsToldBy other answer → ⊥

-- the site let go of a victim of its own
abbrev pub IsOwnVictim : Trace → Type 0
IsOwnVictim (came.Replied reply (Some victim)) = Unit {0}
IsOwnVictim trace = ⊥

-- the slab class of bytes that were offered is full at these sites where it was not by what is told, or the other way round
abbrev pub IsOwnRoom : Happening → Trace → Answer → Type 0
IsOwnRoom (at.Fill site key bytes) (came.Filled Full) (FilledAs Done) = Unit {0}
IsOwnRoom (at.Fill site key bytes) (came.Filled Done) (FilledAs Full) = Unit {0}
IsOwnRoom happening trace answer = ⊥

-- what comes of the event is not what the step tells
pub record Differs (w : Known) (all : Tables) (site : ℕ) (happening : Happening) (step : Step) : Type 0 where
  pub trace : Trace
  pub lawful : Lawful w happening trace
  pub tallies : Tallies w all happening trace
  pub said : IsSaid trace
  pub other : (NoneTells w all happening step.answer ⊎ (IsOwnVictim trace ⊎ IsOwnRoom happening trace step.answer))
      ⊎ (BringsOther w all site step.event step.answer
      ⊎ OtherBeside (all.at site).vector (w.held site) ((happens w happening trace).held site)
      (version_of ((happens w happening trace).at site)) step.event step.answer step.victim step.made)

-- its event names a site or a parcel that is not there, or something else comes of it
abbrev pub MissesBy : Known → Tables → ℕ → Happening → Step → Type 0
MissesBy w all site happening step = (is_there w.sites (length w.sent) happening ≡ false) ⊎ Differs w all site happening step

-- a step is not what comes next where this is known and kept: it tells of what can't be, a flush is due before it, its victim is not
-- held, or, with that evicted, its event is not there, or something else comes of it than the step tells
abbrev pub Misses : Known → Tables → ℕ → ℕ → Step → Type 0
Misses w all site number step = (IsPlainStep step → ⊥)
    ⊎ ((Undue w site step.event → ⊥)
    ⊎ (Unheld w site step.victim
    ⊎ MissesBy (known w (lets_go site step.victim) (gone step.victim)) (kept w all (lets_go site step.victim) (gone step.victim)) site
    (event_of site number step.event) step))

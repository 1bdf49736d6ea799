-- How far histories are merged: the steps that were taken, and where those stand that made parcels.
use Rattle.std.specs.Prelude.{◌≡◌, ◌≢◌, ℕ, ◌+◌, ◌-◌, ◌≤◌, ◌<◌, ◌==◌, ◌&&◌, Bool, true, false, List, [], ◌∷◌, ◌++◌, length, map, Option, None, Some, slice_get, slice_index}
use Rattle.std.specs.HashMap as hash
use Rattle.geo_stamp.specs.Vectors.{greatest_of}
use Rattle.geo_delta.specs.declared.parcel.Parcel.{Parcel}
use Rattle.geo_world.specs.declared.event.Event.{Event as Happening}
use Rattle.geo_site.specs.declared.site.Site.{Site}
use Rattle.geo_history.specs.declared.history.History.{History}
use Rattle.geo_site.specs.declared.event.Event.{Event}
use Rattle.geo_site.specs.declared.event.Event.TheVariants.{Take}
use Rattle.geo_history.specs.declared.step.Step.{Step}
use Rattle.geo_audit.specs.declared.merge.Merge.{Merge}
use Rattle.geo_audit.specs.declared.sent.Mark.{Mark}
use Rattle.geo_audit.specs.declared.sent.Place.{Place}
use Rattle.geo_audit.specs.declared.sent.Sent.{Sent}
use Rattle.geo_audit.specs.Runs.{Turn, parcel_in, sent_in, events_in, Takes}
use Rattle.geo_audit.specs.Verdicts.{GoesOnWith, Fails}

-- whether two marks are one
abbrev pub same_mark : Mark → Mark → Bool
same_mark a b = a.from == b.from && (a.to == b.to && a.clock == b.clock)

abbrev pub mark_of : Parcel → Mark
mark_of parcel = record { from = parcel.from; to = parcel.to; clock = greatest_of parcel.upto }

-- the parcel that a step made, if any
abbrev pub made_by : Option Step → Option Parcel
made_by None = None
made_by (Some step) = parcel_in step.answer

abbrev pub made_in : Option History → ℕ → Option Parcel
made_in None step = None
made_in (Some history) step = made_by (slice_get history.steps.items step)

abbrev pub parcel_at : List History → Place → Option Parcel
parcel_at histories place = made_in (slice_get histories place.history) place.step

-- how many places there are up to that to which a link leads
abbrev pub reach : Option ℕ → ℕ
reach None = 0
reach (Some n) = n + 1

-- of the places before an end, a link leads to the last with this mark
pub record IsLink (places : List Place) (mark : Mark) (link : Option ℕ) (end : ℕ) : Type 0 where
  pub before : reach link ≤ end
  pub same : (n : ℕ) (p : Place) → link ≡ Some n → slice_get places n ≡ Some p → p.mark ≡ mark
  pub last : (n : ℕ) (p : Place) → reach link ≤ n → n < end → slice_get places n ≡ Some p → p.mark ≢ mark

-- each place has the mark of its parcel, and from the last place of each mark the links lead to all others that have it
pub record IsLinked (histories : List History) (places : List Place) (last : Mark → Option ℕ) : Type 0 where
  pub marks : (n : ℕ) (p : Place) (parcel : Parcel) → slice_get places n ≡ Some p → parcel_at histories p ≡ Some parcel
      → p.mark ≡ mark_of parcel
  pub links : (n : ℕ) (p : Place) → slice_get places n ≡ Some p → IsLink places p.mark p.before n
  pub heads : (mark : Mark) → IsLink places mark (last mark) (length places)

abbrev pub AreLinked : List History → Sent → Type 0
AreLinked histories sent = IsLinked histories sent.places.items (λ mark. hash.get same_mark sent.last mark)

-- a parcel is the one with this number of those that were made
pub record IsSentAs (histories : List History) (places : List Place) (parcel : Parcel) (number : ℕ) : Type 0 where
  pub place : Place
  pub there : slice_get places number ≡ Some place
  pub is : parcel_at histories place ≡ Some parcel

abbrev pub IsUnsent : List History → List Place → Parcel → Type 0
IsUnsent histories places parcel = (n : ℕ) (p : Place) → slice_get places n ≡ Some p → parcel_at histories p ≢ Some parcel

-- one place more
pub record AddsPlace (old new : List Place) (history step : ℕ) : Type 0 where
  pub place : Place
  pub is : new ≡ old ++ place ∷ []
  pub history_is : place.history ≡ history
  pub step_is : place.step ≡ step

-- the parcel that is taken, if any, is the one with this number
abbrev pub CarriesAs : List History → List Place → ℕ → Event → Type 0
CarriesAs histories places number (Take parcel) = IsSentAs histories places parcel number
CarriesAs histories places number event = Unit {0}

-- after so many steps a history can go on
pub record CanGo (histories : List History) (places : List Place) (history : History) (count number : ℕ) : Type 0 where
  pub step : Step
  pub next : slice_get history.steps.items count ≡ Some step
  pub carries : CarriesAs histories places number step.event

-- it can't: it takes a parcel that was not made
pub record Awaits (histories : List History) (places : List Place) (history : History) (count : ℕ) : Type 0 where
  pub parcel : Parcel
  pub goes_on : GoesOnWith history count parcel
  pub unsent : IsUnsent histories places parcel

-- if a history has more steps, it can't go on
abbrev pub Halts : List History → List Place → History → ℕ → Type 0
Halts histories places history count = count < length history.steps.items → Awaits histories places history count

-- so many steps of each history are taken, by a run of these events that leads to these sites and parcels
pub record Merged (histories : List History) (counts : List ℕ) (places : List Place) (sites : List Site) (parcels : List Parcel)
    (events : List Happening) : Type 0 where
  pub run : List Turn
  pub takes : Takes histories counts sites parcels run
  pub events_are : events ≡ events_in run
  pub sent : map (parcel_at histories) places ≡ map Some (sent_in run)

pub record IsMerging (histories : List History) (merge : Merge) : Type 0 where
  pub merged : Merged histories merge.counts.items merge.sent.places.items merge.play.world.sites.items merge.play.world.parcels.items merge.play.events.items
  pub linked : AreLinked histories merge.sent

-- the history at a place can go on
pub record GoesAt (histories : List History) (merge : Merge) (place number : ℕ) : Type 0 where
  pub history : History
  pub there : slice_get histories place ≡ Some history
  pub goes : CanGo histories merge.sent.places.items history (slice_index merge.counts.items place) number

-- none can
abbrev pub AllHalt : List History → Merge → Type 0
AllHalt histories merge = (k : ℕ) (h : History) → slice_get histories k ≡ Some h
    → Halts histories merge.sent.places.items h (slice_index merge.counts.items k)

-- how many steps are left
abbrev pub left_of : List History → List ℕ → ℕ
left_of [] counts = 0
left_of (h ∷ histories) [] = length h.steps.items + left_of histories []
left_of (h ∷ histories) (n ∷ counts) = (length h.steps.items - n) + left_of histories counts

-- a turn was taken
pub record TakesTurn (histories : List History) (old new : Merge) : Type 0 where
  pub merging : IsMerging histories new
  pub less : left_of histories new.counts.items < left_of histories old.counts.items

-- or the step is not what comes next
abbrev pub Turns : List History → Merge → Merge → ℕ → Bool → Type 0
Turns histories old new place true = TakesTurn histories old new
Turns histories old new place false = Fails histories (place + 1) (slice_index old.counts.items place + 1)

-- all steps are taken
abbrev pub AllTaken : List History → List ℕ → Type 0
AllTaken histories counts = (k : ℕ) (h : History) → slice_get histories k ≡ Some h → slice_index counts k ≡ length h.steps.items

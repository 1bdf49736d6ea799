-- What is found where no history can go on.
use Rattle.std.proofs.Common.{◌≡◌, inl, inr, ◌≤◌, ◌<◌, ◌+◌, ℕ, zero, suc, List, [], ◌∷◌, length, take, map, replicate, Some, slice_get, slice_index, get_or, refl, sym, ap, subst, ◌∙◌, arith}
use Rattle.std.proofs.lemmas.List.{take_all, length-replicate}
use Rattle.std.proofs.lemmas.List.Elements.{All-nil}
use Rattle.std.proofs.lemmas.Bool.{cases_eq}
use Rattle.std.proofs.lemmas.Option.{slice_get_within, get_or_from_slice_get, slice_get_read, slice_get-get_or}
use Rattle.std.specs.List.{All}
use Rattle.geo_delta.specs.declared.parcel.Parcel.{Parcel}
use Rattle.geo_site.specs.declared.site.Site.{Site}
use Rattle.geo_world.specs.declared.event.Event.{Event as Happening}
use Rattle.geo_history.specs.declared.history.History.{History}
use Rattle.geo_history.specs.declared.step.Step.{Step}
use Rattle.geo_audit.specs.declared.sent.Place.{Place}
use Rattle.geo_audit.specs.declared.play.Play.{Play}
use Rattle.geo_world.specs.Schedule.{known}
use Rattle.geo_world.specs.Served.{NoCollision, AllServe}
use Rattle.geo_world.proofs.Serving.{all_serve}
use Rattle.geo_world.proofs.Sound.{sound_nothing}
use Rattle.geo_world.specs.Setups.{limits_of}
use Rattle.geo_world.specs.Agreement.{ShowsVersions}
use Rattle.geo_world.proofs.Running.{shows}
use Rattle.geo_audit.specs.Runs.{Interleaves, IsTold, IsOneOf, setups_in, first_of, events_in, traces_in}
use Rattle.geo_audit.specs.Playing.{HasOpened}
use Rattle.geo_audit.specs.Verdicts.{IsStuck, HasMore, Waits}
use Rattle.geo_audit.specs.Merging.{parcel_at, Merged, Halts, AllTaken}
use Rattle.geo_audit.proofs.Lists.{some_is, got_taken}
use Rattle.geo_audit.proofs.Runs.{none_sends}
use Rattle.geo_audit.proofs.Halting.{none_interleaves}

pub judged_sound : (histories : List History) (counts : List ℕ) (places : List Place) (sites : List Site) (parcels : List Parcel) (events : List Happening) → Merged histories counts places sites parcels events → AllTaken histories counts → Interleaves events histories
judged_sound histories counts places sites parcels events m all = record {
  versions = λ k site at. subst (λ (es : List Happening). ShowsVersions site ((known (first_of histories) es (traces_in m.run)).at (k + 1))) (sym m.events_are) (shows _ (k + 1) site _ (m.takes.runs.agrees.each k (k + 1) site refl at));
  served = subst (λ (es : List Happening). NoCollision (known (first_of histories) es (traces_in m.run)) es → AllServe (first_of histories) es (traces_in m.run)) (sym m.events_are)
      (all_serve (first_of histories) (events_in m.run) (traces_in m.run) (sound_nothing (length (setups_in histories)) (limits_of (setups_in histories))) m.takes.runs.lawful);
  counts = counts;
  sites = sites;
  parcels = parcels;
  run = m.run;
  takes = m.takes;
  events = m.events_are;
  whole = λ k h there. m.takes.taken k h there ∙ ap (λ n. take n h.steps.items) (all k h there) ∙ take_all (length h.steps.items) h.steps.items (omega arith);
}

pub judged_stuck : (histories : List History) (counts : List ℕ) (places : List Place) (sites : List Site) (parcels : List Parcel) (events : List Happening) → Merged histories counts places sites parcels events → ((k : ℕ) (h : History) → slice_get histories k ≡ Some h → Halts histories places h (slice_index counts k)) → HasMore histories counts → IsStuck histories counts
judged_stuck histories counts places sites parcels events m halt more = record {
  many = m.takes.many;
  within = m.takes.within;
  more = more;
  waits = waits;
  none = λ schedule is. none_interleaves histories counts more waits schedule is;
}
  where
    waits : (k : ℕ) (h : History) → slice_get histories k ≡ Some h → slice_index counts k < length h.steps.items → Waits histories counts h (slice_index counts k)
    waits k h there less = let a = halt k h there less in record { parcel = a.parcel; goes_on = a.goes_on; unsent = none_sends histories counts places sites parcels events a.parcel m a.unsent }

none_counted : (n k : ℕ) → slice_index (replicate n 0) k ≡ 0
none_counted zero k = refl
none_counted (suc n) zero = refl
none_counted (suc n) (suc k) = none_counted n k

none_taken : (counts : List ℕ) (n k : ℕ) → counts ≡ replicate n 0 → slice_index counts k ≡ 0
none_taken counts n k e = ap (λ l. slice_index l k) e ∙ none_counted n k

pub merged_none : (histories : List History) (counts : List ℕ) (places : List Place) (play : Play) → HasOpened histories play → counts ≡ replicate (length histories) 0 → places ≡ [] → Merged histories counts places play.world.sites.items play.world.parcels.items play.events.items
merged_none histories counts places play opened e f = record {
  run = [];
  takes = record {
    setups = opened.setups;
    as_many = opened.as_many;
    runs = opened.runs;
    told = All-nil IsTold;
    fits = tt;
    carries = tt;
    own = All-nil (IsOneOf histories);
    many = ap length e ∙ length-replicate (length histories) 0;
    within = λ k h there. let none = none_taken counts (length histories) k e in omega (arith, none);
    taken = λ k h there. sym (ap (λ n. take n h.steps.items) (none_taken counts (length histories) k e) ∙ take_none h.steps.items);
  };
  events_are = opened.events;
  sent = ap (map (parcel_at histories)) f;
}
  where
    take_none : (xs : List Step) → take 0 xs ≡ []
    take_none [] = refl
    take_none (x ∷ xs) = refl

-- what holds of the histories before holds of one more
pub below_one : (P : ℕ → History → Type 0) (histories : List History) (at : ℕ) (g : History) → slice_get histories at ≡ Some g → P at g → ((k : ℕ) (h : History) → k < at → slice_get histories k ≡ Some h → P k h) → (k : ℕ) (h : History) → k < at + 1 → slice_get histories k ≡ Some h → P k h
below_one P histories at g there own before k h less is = elim (cases_eq k at) [
  | inl e ↦ subst (λ i. P i h) (sym e) (subst (P at) (some_is g h (sym there ∙ ap (slice_get histories) (sym e) ∙ is)) own)
  | inr other ↦ before k h (omega (arith, less, other)) is
]

-- what holds of all of the first holds of each
pub first_all : (P : History → Type 0) (histories : List History) (i k : ℕ) (h : History) → All P (take i histories) → k < i → slice_get histories k ≡ Some h → P h
first_all P histories i k h all less there = subst P (get_or_from_slice_get (take i histories) k h h taken) (all k h (slice_get_within (take i histories) k h taken))
  where
    taken : slice_get (take i histories) k ≡ Some h
    taken = got_taken histories i k less ∙ there

pub same_count : (a b n : ℕ) → a ≤ n → b ≡ n → b ≤ a → a ≡ n
same_count a b n few e many = omega (arith, few, e, many)

-- an element by whatever default
pub any_default : (xs : List ℕ) (i n : ℕ) → i < length xs → n ≡ get_or xs i n → n ≡ slice_index xs i
any_default xs i n less e = some_is n (slice_index xs i) (sym (slice_get_read xs (length xs) i n refl less e) ∙ slice_get-get_or xs i 0 less)

pub there_of : (histories : List History) (i : ℕ) (h : History) → i < length histories → h ≡ get_or histories i h → slice_get histories i ≡ Some h
there_of histories i h less e = slice_get_read histories (length histories) i h refl less e

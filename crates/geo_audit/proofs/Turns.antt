-- One turn more, as the parts of a merge have it.
use Rattle.std.proofs.Common.{◌≡◌, ◌<◌, ◌+◌, ℕ, List, [], ◌∷◌, ◌++◌, length, map, Some, slice_get, slice_index, slice_set, get_or, refl, sym, ap, subst, ◌∙◌}
use Rattle.std.proofs.lemmas.Option.{slice_get_within}
use Rattle.geo_world.specs.declared.event.Event.{Event as Happening}
use Rattle.geo_world.specs.Schedule.{known}
use Rattle.geo_history.specs.declared.history.History.{History}
use Rattle.geo_history.specs.declared.step.Step.{Step}
use Rattle.geo_world.specs.Tables.{kept}
use Rattle.geo_audit.specs.declared.merge.Merge.{Merge}
use Rattle.geo_audit.specs.declared.play.Play.{Play}
use Rattle.geo_audit.specs.declared.sent.Place.{Place}
use Rattle.geo_audit.specs.Runs.{Turn, turn_of, parcel_in, listed, sent_in, events_of, traces_of, events_in, traces_in, first_of, none_of, TakesNumbered, Fits, IsRun, Takes}
use Rattle.geo_audit.specs.Misses.{Misses}
use Rattle.geo_audit.specs.Playing.{Plays, Always, Replays}
use Rattle.geo_audit.specs.Verdicts.{Fails}
use Rattle.geo_audit.specs.Merging.{parcel_at, made_in, made_by, CarriesAs, Merged, IsMerging, GoesAt, left_of}
use Rattle.geo_audit.proofs.Lists.{some_is}
use Rattle.geo_audit.proofs.Runs.{carried, events_more, takes_more, sent_after, left_less}
use Rattle.geo_audit.proofs.Judging.{any_default, there_of}

-- a history that can go on, and its next step
pub record Goes (histories : List History) (counts : List ℕ) (places : List Place) (k number : ℕ) (h : History) (step : Step) : Type 0 where
  pub there : slice_get histories k ≡ Some h
  pub next : slice_get h.steps.items (slice_index counts k) ≡ Some step
  pub carries : CarriesAs histories places number step.event

pub goes_at : (histories : List History) (old : Merge) (k number count : ℕ) (h : History) (step : Step) → IsMerging histories old → GoesAt histories old k number → k < length histories → h ≡ get_or histories k h → count ≡ get_or old.counts.items k count → Some step ≡ slice_get h.steps.items count
    → Goes histories old.counts.items old.sent.places.items k number h step
goes_at histories old k number count h step merging goes less is counted got = record {
  there = there;
  next = next;
  carries = subst (λ (s : Step). CarriesAs histories old.sent.places.items number s.event) (some_is goes.goes.step step (sym goes.goes.next ∙ ap (λ (x : History). slice_get x.steps.items (slice_index old.counts.items k)) same ∙ next)) goes.goes.carries;
}
  where
    there : slice_get histories k ≡ Some h
    there = there_of histories k h less is

    same : goes.history ≡ h
    same = some_is goes.history h (sym goes.there ∙ there)

    counts_is : count ≡ slice_index old.counts.items k
    counts_is = any_default old.counts.items k count (subst (λ n. k < n) (sym merging.merged.takes.many) less) counted

    next : slice_get h.steps.items (slice_index old.counts.items k) ≡ Some step
    next = ap (slice_get h.steps.items) (sym counts_is) ∙ sym got

-- the parcel that the next step made
pub made_next : (histories : List History) (k count : ℕ) (h : History) (step : Step) → slice_get histories k ≡ Some h → Some step ≡ slice_get h.steps.items count → made_in (slice_get histories k) count ≡ parcel_in step.answer
made_next histories k count h step there got = ap (λ o. made_in o count) there ∙ ap made_by (sym got)

module _ (histories : List History) (old : Merge) (k number count : ℕ) (h : History) (step : Step) (merging : IsMerging histories old) (goes : Goes histories old.counts.items old.sent.places.items k number h step) (counted : count ≡ get_or old.counts.items k count) where
  m : Merged histories old.counts.items old.sent.places.items old.play.world.sites.items old.play.world.parcels.items old.play.events.items
  m = merging.merged

  inside : k < length old.counts.items
  inside = subst (λ n. k < n) (sym m.takes.many) (slice_get_within histories k h goes.there)

  count_is : count ≡ slice_index old.counts.items k
  count_is = any_default old.counts.items k count inside counted

  carries : TakesNumbered (sent_in m.run) number step.event
  carries = carried histories old.sent.places.items (sent_in m.run) number step.event m.sent goes.carries

  plays : Plays (first_of histories) (none_of histories) old.play (traces_in m.run)
  plays = subst (λ es. IsRun (first_of histories) (none_of histories) old.play.world.sites.items old.play.world.parcels.items es (traces_in m.run)) (sym m.events_are) m.takes.runs

  pub turn_less : left_of histories (slice_set old.counts.items k (count + 1)) < left_of histories old.counts.items
  turn_less = subst (λ n. left_of histories (slice_set old.counts.items k (n + 1)) < left_of histories old.counts.items) (sym count_is)
      (left_less histories old.counts.items k h goes.there (slice_get_within h.steps.items (slice_index old.counts.items k) step goes.next) inside)

  pub turn_merged : (play : Play) (places : List Place) → Replays old.play play (k + 1) number step → map (parcel_at histories) places ≡ map (parcel_at histories) old.sent.places.items ++ map Some (listed (parcel_in step.answer))
      → Merged histories (slice_set old.counts.items k (count + 1)) places play.world.sites.items play.world.parcels.items play.events.items
  turn_merged play places r adds = record {
    run = m.run ++ turn ∷ [];
    takes = subst (λ n. Takes histories (slice_set old.counts.items k (n + 1)) play.world.sites.items play.world.parcels.items (m.run ++ turn ∷ [])) (sym count_is)
        (takes_more histories old.counts.items old.play.world.sites.items play.world.sites.items old.play.world.parcels.items play.world.parcels.items m.run k number h step r.trace m.takes goes.there goes.next r.leads.as_many r.told carries
        (subst (λ (es : List Happening). Fits (known (first_of histories) es (traces_in m.run)) (kept (first_of histories) (none_of histories) es (traces_in m.run)) (known (known (first_of histories) es (traces_in m.run)) (events_of turn) (traces_of turn)) turn) m.events_are
        (r.fits (first_of histories) (none_of histories) (traces_in m.run) plays))
        (subst (λ (es : List Happening). IsRun (first_of histories) (none_of histories) play.world.sites.items play.world.parcels.items es (traces_in m.run ++ traces_of turn)) events_now (r.leads.runs (first_of histories) (none_of histories) (traces_in m.run) plays)));
    events_are = events_now ∙ sym (events_more m.run turn);
    sent = sent_after histories old.sent.places.items places m.run turn m.sent adds;
  }
    where
      turn : Turn
      turn = turn_of (k + 1) number step r.trace

      events_now : play.events.items ≡ events_in m.run ++ events_of turn
      events_now = r.leads.events_are ∙ ap (λ es. es ++ events_of turn) m.events_are

  pub turn_fails : Always old.play (λ w all. Misses w all (k + 1) number step) → Fails histories (k + 1) (slice_index old.counts.items k + 1)
  turn_fails apart = record {
    counts = old.counts.items;
    sites = old.play.world.sites.items;
    parcels = old.play.world.parcels.items;
    run = m.run;
    takes = m.takes;
    place = k;
    history = h;
    there = goes.there;
    site_is = refl;
    step_is = refl;
    next = step;
    next_is = goes.next;
    number = number;
    carries = carries;
    misses = subst (λ (es : List Happening). Misses (known (first_of histories) es (traces_in m.run)) (kept (first_of histories) (none_of histories) es (traces_in m.run)) (k + 1) number step) m.events_are
        (apart (first_of histories) (none_of histories) (traces_in m.run) plays);
  }

-- An event changes no other site than its own, and does there what that site's call says.
use Rattle.std.proofs.lemmas.List.{take_more, take_all}
use Rattle.std.proofs.Common.{◌≡◌, ℕ, ◌+◌, ◌-◌, ◌<◌, ◌≤◌, take, get_or, length, Bool, true, false, cond, List, [], ◌∷◌, ◌++◌, Option, None, Some, refl, sym, ap, ◌∙◌, subst, arith, slice_get, slice_set}
use Rattle.geo_records.specs.Operations.{Act}
use Rattle.geo_records.specs.Operations.Act.{Write, Delete, Touch, Flush}
use Rattle.geo_requests.specs.declared.request.Request.{Request}
use Rattle.geo_requests.specs.declared.reply.Reply.{Reply}
use Rattle.geo_site.specs.declared.site.Site.{Site}
use Rattle.geo_world.specs.declared.event.Event.{Event}
use Rattle.geo_world.specs.declared.event.Trace.{Trace}
use Rattle.geo_site.specs.Entries.{is_done}
use Rattle.geo_site.specs.Sites.{state_in, victim_in, issued_in, ActDoes}
use Rattle.geo_site.specs.declared.setup.Setup.{Setup}
use Rattle.geo_world.specs.Doing.{WasFull, Commands, DoesThere, DoesAlone, EachAlone, EachOpens, RunsAlone, site_of}
use Rattle.geo_world.proofs.Worlds.{others_stay, some_none}
use Rattle.geo_world.proofs.Answering.{get_set}

module _ (sites : List Site) (s : ℕ) (old : Site) (first : 1 ≤ s) (got : slice_get sites (s - 1) ≡ Some old) (event : Event) (trace : Trace) (at : site_of event ≡ s) where
  place : (k : ℕ) → site_of event ≡ k + 1 → k ≡ s - 1
  place k e = omega (arith, e, at, first)

  pub does_alone : (new : Site) → DoesThere old new event trace → DoesAlone sites (slice_set sites (s - 1) new) event trace
  does_alone new does = record {
    before = old;
    after = new;
    was = λ k e. ap (slice_get sites) (place k e) ∙ got;
    is = λ k e. ap (slice_get (slice_set sites (s - 1) new)) (place k e) ∙ get_set sites (s - 1) new old got;
    does = does;
    others = λ k ne. others_stay sites s new first k (λ e. ne (at ∙ e));
  }

  -- where no site changes
  pub stays_alone : DoesThere old old event trace → DoesAlone sites sites event trace
  stays_alone does = record {
    before = old;
    after = old;
    was = λ k e. ap (slice_get sites) (place k e) ∙ got;
    is = λ k e. ap (slice_get sites) (place k e) ∙ got;
    does = does;
    others = λ k ne. refl;
  }

-- ---- a victim
full_by : (b : Bool) (x : Option (List ℕ)) (victim : List ℕ) → Some victim ≡ cond {A = Option (List ℕ)} b x None → b ≡ true
full_by true x victim h = refl
full_by false x victim h = absurd (some_none h)

was_full : (site : Site) (acts : List Act) (victim : Option (List ℕ)) → victim ≡ victim_in site acts → WasFull (state_in site).stock acts victim
was_full site acts None is = tt
was_full site [] (Some victim) is = absurd (some_none is)
was_full site (Write key bytes flags expiry ∷ acts) (Some victim) is = full_by _ _ victim is
was_full site (Delete key ∷ acts) (Some victim) is = absurd (some_none is)
was_full site (Touch key expiry ∷ acts) (Some victim) is = absurd (some_none is)
was_full site (Flush ∷ acts) (Some victim) is = absurd (some_none is)

full_if : (site : Site) (acts : List Act) (t : Bool) (victim : Option (List ℕ)) → victim ≡ cond {A = Option (List ℕ)} t (victim_in site acts) None → WasFull (state_in site).stock acts victim
full_if site acts true victim is = was_full site acts victim is
full_if site acts false victim is = subst (WasFull (state_in site).stock acts) (sym is) tt

pub commands : (old new : Site) (now : ℕ) (request : Request) (reply : Reply) (victim : Option (List ℕ)) (does : ActDoes old new now request reply) → victim ≡ cond {A = Option (List ℕ)} (is_done reply) (victim_in does.mid (issued_in does.mid now request)) None → Commands old new now request reply victim
commands old new now request reply victim does is = record { does = does; victims = is; full = full_if does.mid (issued_in does.mid now request) (is_done reply) victim is }

-- ---- one event more
pub each_more : (first mid last : List Site) (events : List Event) (traces : List Trace) (event : Event) (trace : Trace) → EachAlone first events traces mid → DoesAlone mid last event trace → EachAlone first (events ++ event ∷ []) (traces ++ trace ∷ []) last
each_more first mid last [] [] event trace each d = (last, subst (λ (m : List Site). DoesAlone m last event trace) each d, refl)
each_more first mid last [] (u ∷ traces) event trace each d = absurd each
each_more first mid last (e ∷ events) [] event trace each d = absurd each
each_more first mid last (e ∷ events) (u ∷ traces) event trace each d = (each.0, each.1, each_more each.0 mid last events traces event trace each.2 d)

pub alone_first : (setups : List Setup) (sites : List Site) → length sites ≡ length setups → EachOpens setups sites → RunsAlone setups [] [] sites
alone_first setups sites many opened = record { first = sites; many = many; opened = opened; each = refl }

pub alone_more : (setups : List Setup) (mid last : List Site) (events : List Event) (traces : List Trace) (index : ℕ) (event : Event) (trace : Trace) → RunsAlone setups (take index events) traces mid → index < length events → event ≡ get_or events index event → DoesAlone mid last event trace
    → RunsAlone setups (take (index + 1) events) (traces ++ trace ∷ []) last
alone_more setups mid last events traces index event trace run lt at d = record {
  first = run.first;
  many = run.many;
  opened = run.opened;
  each = subst (λ es. EachAlone run.first es (traces ++ trace ∷ []) last) (sym (take_more events index event lt ∙ ap (λ e. take index events ++ e ∷ []) (sym at)))
      (each_more run.first mid last (take index events) traces event trace run.each d);
}

pub all_alone : (setups : List Setup) (sites : List Site) (events : List Event) (traces : List Trace) (index : ℕ) → length events ≤ index → RunsAlone setups (take index events) traces sites → RunsAlone setups events traces sites
all_alone setups sites events traces index le run = subst (λ es. RunsAlone setups es traces sites) (take_all index events le) run

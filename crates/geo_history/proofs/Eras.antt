-- A new era keeps what a site with its history is.
use Rattle.std.proofs.Common.{◌≡◌, ℕ, ◌<◌, ◌≤◌, Bool, List, length, Option, None, Some, Result, Ok, Err, refl, sym, ap, subst, ◌∙◌, arith}
use Rattle.std.proofs.lemmas.Grind.{merely}
use Rattle.std.specs.declared.alloc.AllocError.{AllocError}
use Rattle.geo_site.specs.declared.site.Site.{Site}
use Rattle.geo_site.specs.declared.state.SiteState.{SiteState}
use Rattle.geo_site.specs.States.{IsStateOf}
use Rattle.geo_history.specs.declared.history.History.{History}
use Rattle.geo_history.specs.declared.step.Step.{Step}
use Rattle.geo_site.specs.Standings.{who_in, standing_in, Describes}
use Rattle.geo_history.specs.Replays.{steps_of}
use Rattle.geo_history.specs.Keeping.{Story, most_seats, most_steps, made_in, made_by, IsCounted, Keeps, IsKept}
use Rattle.geo_history.specs.Stories.{Renews, NewEraDoes}

described : (site : Site) (state : SiteState) → IsStateOf site state → Describes state (standing_in site)
described site state is = record {
  vector = is.vector;
  rows = is.rows;
  floor = is.floor;
  map = is.map;
  held = is.held;
  waiting = is.waiting;
  counts = is.counts;
}

keeps_anew : (old new : Story) → Renews old new → IsKept new
keeps_anew old new r = subst (λ (ss : List Step). Keeps (who_in new.site) new.opening ss (standing_in new.site)) (sym r.steps) (record {
  first = standing_in new.site;
  opens = subst (λ (site : Site). Describes new.opening.state (standing_in site)) (sym r.site) (described old.site new.opening.state r.state);
  replays = refl;
  numbered = λ seat. refl;
})

made_anew : (old new : Story) → Renews old new → (seat : ℕ) → seat < most_seats → made_in new.opening new.steps seat ≡ made_by old seat
made_anew old new r seat below =
    let none : length (steps_of seat new.steps) ≡ 0 = ap (λ (ss : List Step). length (steps_of seat ss)) r.steps in
    omega (arith, none, r.counts seat below)

pub renewed_kept : (logged : Bool) (old new : Story) (result : Result (Option History) AllocError) → NewEraDoes logged old new result → ∥ IsKept old ∥₁ → ∥ IsKept new ∥₁
renewed_kept logged old new (Ok (Some history)) does kept = merely (keeps_anew old new does.1)
renewed_kept logged old new (Ok None) does kept = subst (λ (s : Story). ∥ IsKept s ∥₁) (sym does.1) kept
renewed_kept logged old new (Err refused) does kept = subst (λ (s : Story). ∥ IsKept s ∥₁) (sym does) kept

pub renewed_counted : (logged : Bool) (old new : Story) (counts : List ℕ) (result : Result (Option History) AllocError) → NewEraDoes logged old new result → IsCounted old.opening old.steps counts → IsCounted new.opening new.steps counts
renewed_counted logged old new counts (Ok (Some history)) does h = record {
  many = h.many;
  few = λ seat below. subst (λ n. n ≤ most_steps) (sym (made_anew old new does.1 seat below)) (h.few seat below);
  counted = λ seat below. h.counted seat below ∙ sym (made_anew old new does.1 seat below);
  total =
      let none : length new.steps ≡ 0 = ap length does.1.steps in
      omega (arith, none, h.total, does.1.total);
}
renewed_counted logged old new counts (Ok None) does h = subst (λ (s : Story). IsCounted s.opening s.steps counts) (sym does.1) h
renewed_counted logged old new counts (Err refused) does h = subst (λ (s : Story). IsCounted s.opening s.steps counts) (sym does) h

pub renewed_who : (logged : Bool) (old new : Story) (result : Result (Option History) AllocError) → NewEraDoes logged old new result → who_in new.site ≡ who_in old.site
renewed_who logged old new (Ok (Some history)) does = ap who_in does.1.site
renewed_who logged old new (Ok None) does = ap (λ (s : Story). who_in s.site) does.1
renewed_who logged old new (Err refused) does = ap (λ (s : Story). who_in s.site) does

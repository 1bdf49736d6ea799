-- Steps that are logged.
use Rattle.std.proofs.Common.{◌≡◌, ℕ, ◌+◌, ◌-◌, Bool, true, cond, List, [], ◌∷◌, ◌++◌, length, map, Option, Some, refl, ap, sym, ◌∙◌, subst, arith, length-append}
use Rattle.std.specs.Prelude.{slice_get}
use Rattle.std.proofs.lemmas.List.Sums.{sum_by_push}
use Rattle.geo_history.specs.declared.step.Step.{Step}
use Rattle.geo_history.specs.declared.log.Unlogged.{Unlogged}
use Rattle.geo_history.specs.Logging.{LogView, logged_in, last_step, IsLogged}
use Rattle.geo_history.specs.Sizes.{capped, step_bytes, kept_bytes}

-- where steps are logged those are all
pub all_logged : (log : LogView) → log.logged ≡ true → logged_in log ≡ log.items
all_logged log on = ap (λ (b : Bool). cond {A = List Step} b log.items []) on

-- one step more
pub kept_more : (steps : List Step) (s : Step) (bytes size next : ℕ) → bytes ≡ kept_bytes steps → size ≡ capped (step_bytes s) → next ≡ capped (bytes + size)
    → next ≡ kept_bytes (steps ++ s ∷ [])
kept_more steps s bytes size next was is after =
    let more = sum_by_push step_bytes steps s in
    omega (arith, more, was, is, after)

-- one step more that is not logged
tell_last : (steps : List Step) (s : Step) → slice_get (steps ++ s ∷ []) (length steps) ≡ Some s
tell_last [] s = refl
tell_last (x ∷ xs) s = tell_last xs s

pub last_of : (steps : List Step) (s : Step) → last_step (steps ++ s ∷ []) ≡ Some s
last_of steps s =
    let long = length-append steps (s ∷ []) in
    let at : length (steps ++ s ∷ []) - 1 ≡ length steps = omega (arith, long) in
    ap (slice_get (steps ++ s ∷ [])) at ∙ tell_last steps s

steps_in : {A : Type 0} (traces : List (A × Step)) (one : A × Step) → map (λ (p : A × Step). p.1) (traces ++ one ∷ []) ≡ map (λ (p : A × Step). p.1) traces ++ one.1 ∷ []
steps_in [] one = refl
steps_in (x ∷ xs) one = ap (λ l. x.1 ∷ l) (steps_in xs one)

pub unlogged_more : (steps : List Step) (bytes : ℕ) (was : Option Unlogged) (other next : Unlogged) (s : Step) → was ≡ Some other → IsLogged steps bytes was
    → next.steps.items ≡ other.steps.items ++ (tt, s) ∷ [] → next.last ≡ Some s → IsLogged steps bytes (Some next)
unlogged_more steps bytes was other next s is logged more last =
    let there : IsLogged steps bytes (Some other) = subst (λ (o : Option Unlogged). IsLogged steps bytes o) is logged in
    record {
      counted = logged.counted;
      none = (there.none.0, last ∙ sym (ap (λ l. last_step (map (λ p. p.1) l)) more ∙ ap last_step (steps_in other.steps.items (tt, s)) ∙ last_of (map (λ p. p.1) other.steps.items) s));
    }

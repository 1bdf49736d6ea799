-- Lines for which memory is wanted.
use Rattle.std.proofs.Common.{◌≡◌, ℕ, ◌<◌, Bool, true, false, true≢false, List, length, Option, None, Some, MatchOption, refl, sym, ap, ◌∙◌, arith}
use Rattle.geo_cluster.specs.Sayings.{Said, SaysSites, SaysAt, SaysClient, SaysSend, SaysTake, SaysTick, SaysRemove, SaysReap, SaysEvict, SaysFill, SaysVersions, SaysRetire}
use Rattle.geo_cluster.specs.Progress.{Progress}
use Rattle.geo_cluster.specs.Effects.{can_carry, SaidDoes}
use Rattle.geo_cluster.specs.Wants.{grows, CarriesAt}

-- a line that was found to be one that can be carried out
pub wants_carried : (p : Progress) (says : Option Said) (sites : ℕ) (can : Bool) → CarriesAt sites says can → length p.setups ≡ sites → can ≡ true
    → MatchOption says ⊥ (λ s. (can_carry p s ≡ true) × (grows s ≡ true))
wants_carried p None sites can none many is = absurd (true≢false (sym is ∙ none))
wants_carried p (Some s) sites can h many is = (h.1 p many ∙ is, h.0)

-- and one that can't
pub bad_uncarried : (p : Progress) (says : Option Said) (sites : ℕ) (can : Bool) → CarriesAt sites says can → length p.setups ≡ sites → can ≡ false → MatchOption says (Unit {0}) (λ s. can_carry p s ≡ false)
bad_uncarried p None sites can none many is = tt
bad_uncarried p (Some s) sites can h many is = h.1 p many ∙ is

-- what prints something is no change of the moment
pub grows_printed : (p q : Progress) (s : Said) (text : List ℕ) → SaidDoes p s text q → 0 < length text → grows s ≡ true
grows_printed p q (SaysSites n pages most reap) text does some = refl
grows_printed p q (SaysAt m) text does some = let none = ap (λ (x : List ℕ). length x) does.0 in absurd (omega (arith, some, none))
grows_printed p q (SaysClient s bytes) text does some = refl
grows_printed p q (SaysSend s t) text does some = refl
grows_printed p q (SaysTake s k) text does some = refl
grows_printed p q (SaysTick s) text does some = refl
grows_printed p q (SaysRemove s) text does some = refl
grows_printed p q (SaysReap s key) text does some = refl
grows_printed p q (SaysEvict s key) text does some = refl
grows_printed p q (SaysFill s key bytes) text does some = refl
grows_printed p q (SaysVersions s) text does some = refl
grows_printed p q (SaysRetire s t) text does some = refl

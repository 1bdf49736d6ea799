-- Events that are there, one after the other.
use Rattle.std.proofs.Common.{◌≡◌, ℕ, ◌+◌, ◌<◌, ◌≤◌, Bool, true, false, cond, ◌&&◌, ◌==◌, List, [], ◌∷◌, ◌++◌, length, take, Some, refl, sym, ap, ◌∙◌, arith, true≢false, get_or}
use Rattle.std.proofs.lemmas.List.{take_more}
use Rattle.std.proofs.lemmas.Option.{slice_get-get_or}
use Rattle.geo_world.specs.declared.event.Event.{Event}
use Rattle.geo_world.specs.declared.event.Event.TheVariants.{Command, Evict, Send, Take, Remove, Tick, Reap, Fill, Retire}
use Rattle.geo_world.specs.There.{is_there, made_by, made_in, all_there, CannotCome}

both : (a b : Bool) → a && b ≡ true → (a ≡ true) × (b ≡ true)
both true b h = (refl, h)
both false b h = absurd (true≢false (sym h))

there_then : (n p : ℕ) (es : List Event) (e : Event) → all_there n p es ≡ true → is_there n (made_in p es) e ≡ true → all_there n p (es ++ e ∷ []) ≡ true
there_then n p [] e h l = λ i. l i && true
there_then n p (d ∷ es) e h l = let b = both (is_there n p d) (all_there n (made_by p d) es) h in λ i. b.0 i && there_then n (made_by p d) es e b.1 l i

made_then : (p : ℕ) (es : List Event) (e : Event) → made_in p (es ++ e ∷ []) ≡ made_by (made_in p es) e
made_then p [] e = refl
made_then p (d ∷ es) e = made_then (made_by p d) es e

made_most : (p : ℕ) (e : Event) → made_by p e ≤ p + 1
made_most p (Command site now request) = omega arith
made_most p (Evict site key) = omega arith
made_most p (Send site to) = by (site == to)
  where
    by : (b : Bool) → cond b p (p + 1) ≤ p + 1
    by true = omega arith
    by false = omega arith
made_most p (Take site parcel) = omega arith
made_most p (Remove site) = omega arith
made_most p (Tick site now) = omega arith
made_most p (Reap site now key) = omega arith
made_most p (Fill site key bytes) = omega arith
made_most p (Retire site other) = omega arith

-- the events up to an index are there, and make so many parcels
pub record AreThere (sites : ℕ) (events : List Event) (index parcels : ℕ) : Type 0 where
  pub all : all_there sites 0 (take index events) ≡ true
  pub made : parcels ≡ made_in 0 (take index events)

module _ (sites : ℕ) (events : List Event) (index parcels : ℕ) (event : Event) (are : AreThere sites events index parcels) (lt : index < length events) (at : event ≡ get_or events index event) where
  more : take (index + 1) events ≡ take index events ++ event ∷ []
  more = take_more events index event lt ∙ ap (λ e. take index events ++ e ∷ []) (sym at)

  pub there_more : (next : ℕ) → is_there sites parcels event ≡ true → next ≡ made_by parcels event → AreThere sites events (index + 1) next
  there_more next h made = record {
    all = ap (all_there sites 0) more ∙ there_then sites 0 (take index events) event are.all (ap (λ p. is_there sites p event) (sym are.made) ∙ h);
    made = made ∙ ap (λ p. made_by p event) are.made ∙ sym (ap (made_in 0) more ∙ made_then 0 (take index events) event);
  }

  pub few_more : (next : ℕ) → next ≡ made_by parcels event → parcels ≤ index → next ≤ index + 1
  few_more next made few = let m = made_most parcels event in omega (arith, made, few, m)

  pub missing_at : is_there sites parcels event ≡ false → CannotCome sites events index
  missing_at h = record {
    before = are.all;
    event = event;
    at = slice_get-get_or events index event lt ∙ ap Some (sym at);
    missing = ap (λ p. is_there sites p event) (sym are.made) ∙ h;
  }

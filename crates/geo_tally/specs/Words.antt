-- The rule of the words: each is the sum of what all seats added to it. What each kind of step does to a seat's view.
use Rattle.std.specs.Prelude.{◌≡◌, ℕ, zero, suc, ◌+◌, ◌-◌, ◌*◌, ◌^◌, ◌≤◌, List, [], ◌∷◌}
use mathlib.Core.Option.{some}
use lib.ListN.{get_elem?}
use Rattle.atomic_table.specs.Table.{State, Me, Step}
use Rattle.geo_tally.specs.declared.rule.Adds.{Adds}
use Rattle.geo_tally.specs.declared.counter.Counter.{Counter}
use Rattle.geo_tally.specs.declared.counter.Counter.TheVariants.{Sessions, Requests, Faults, Rounds, FramesRefused}
use Rattle.geo_tally.specs.declared.counter.Counts.{Counts}
use Rattle.geo_tally.specs.Counts.{count_of, no_counts, one_more, together, all_together, whole, in_order}

-- how often one seat can add
abbrev pub most_adds : ℕ
most_adds = 2 ^ 40

abbrev pub most_seats : ℕ
most_seats = 256

abbrev pub adds : ℕ → Counts → Adds
adds parts counts = record { parts = parts; counts = counts }

abbrev pub parts_of : List Adds → ℕ
parts_of [] = 0
parts_of (v ∷ vs) = v.parts + parts_of vs

-- each word is the sum of what all views added to its counter. All parts together are the seats, and each can add so often
pub record IsTally (seats : ℕ) (words : List ℕ) (views : List Adds) : Type 0 where
  pub sums : words ≡ in_order (all_together (λ v. v.counts) views)
  pub parts : parts_of views ≡ seats
  pub few : seats ≤ most_seats
  pub most : (id : ℕ) (v : Adds) → get_elem? views id ≡ some v → whole v.counts ≤ v.parts * most_adds

abbrev pub Holds : {S : Type 0} → ℕ → State S Adds → Type 0
Holds seats s = IsTally seats s.words s.views

-- which counter has this word
abbrev pub counter_at : ℕ → Counter
counter_at zero = Sessions
counter_at (suc zero) = Requests
counter_at (suc (suc zero)) = Faults
counter_at (suc (suc (suc zero))) = Rounds
counter_at (suc (suc (suc (suc n)))) = FramesRefused

-- one more was added to the step's word
abbrev pub AddsOne : {S : Type 0} → Step S → Me S Adds → ℕ → Me S Adds → Type 0
AddsOne s me found after = after ≡ (adds me.0.parts (one_more (counter_at s.word) me.0.counts), me.1)

-- nothing changed, and what the seat itself added was found, or more
pub record Finds {S : Type 0} (s : Step S) (me : Me S Adds) (found : ℕ) (after : Me S Adds) : Type 0 where
  pub unchanged : after ≡ me
  pub own : count_of (counter_at s.word) me.0.counts ≤ found
  pub range : found ≤ most_seats * most_adds

abbrev pub all_but_one_part : Adds → Adds
all_but_one_part v = adds (v.parts - 1) v.counts

-- the view of a new seat
abbrev pub one_part : Adds
one_part = adds 1 no_counts

abbrev pub adds_together : Adds → Adds → Adds
adds_together v w = adds (v.parts + w.parts) (together v.counts w.counts)

-- the view of a seat that went into another
abbrev pub no_part : Adds
no_part = adds 0 no_counts

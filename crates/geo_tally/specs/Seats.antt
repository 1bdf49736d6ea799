-- What contracts see of a tally and of its seats.
use Rattle.std.specs.Prelude.{◌≡◌, ℕ, ◌≤◌, []}
use Rattle.atomic_table.specs.Seated.{TableId}
use Rattle.atomic_table.specs.Table.{Me}
use Rattle.geo_tally.specs.declared.rule.Adds.{Adds}
use Rattle.geo_tally.specs.declared.counter.Counter.{Counter}
use Rattle.geo_tally.specs.declared.counter.Counts.{Counts}
use Rattle.geo_tally.specs.Counts.{no_counts, one_more, whole}
use Rattle.geo_tally.specs.Words.{most_adds}

-- a tally: which it is, and how many seats it gave
pub record TallyView : Type 0 where
  pub tally : TableId
  pub seats : ℕ

-- a seat: which tally gave it, and how often it added to each counter
pub record SeatView : Type 0 where
  pub tally : TableId
  pub counts : Counts

-- a new seat of a tally
abbrev pub unused : TableId → SeatView
unused tally = record { tally = tally; counts = no_counts }

-- a seat after one more add
abbrev pub added : Counter → SeatView → SeatView
added counter s = record s { counts = one_more counter s.counts }

-- how often a seat added, to all counters together
abbrev pub adds_of : SeatView → ℕ
adds_of s = whole s.counts

-- what a seat has: one part, no slot, and the number of its adds
pub record IsSeat {S : Type 0} (me : Me S Adds) (number : ℕ) : Type 0 where
  pub part : me.0.parts ≡ 1
  pub slotless : me.1 ≡ []
  pub counted : number ≡ whole me.0.counts
  pub most : number ≤ most_adds

-- what a tally has: five words, no slot, and its rule was told the number of seats
pub record IsTallyTable (table_id : TableId) (key seats : ℕ) : Type 0 where
  pub words : table_id.words ≡ 5
  pub slotless : table_id.slots ≡ 0
  pub told : key ≡ seats
  pub some : 1 ≤ seats

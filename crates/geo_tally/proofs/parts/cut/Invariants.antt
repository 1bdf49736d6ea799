use Rattle.std.proofs.Common.{◌≡◌, ◌+◌, ◌-◌, ◌≤◌, [], All, vec_len, vec_capacity}
use Rattle.geo_tally.specs.Counts.{no_counts}
use Rattle.geo_tally.specs.Words.{adds}
use Rattle.geo_tally.proofs.parts.cut.Given as goal

abbrev pub invariant-loop : goal.invariant-loop
invariant-loop l =
    (l.first.table_id ≡ l.table.shared.table_id)
    × (l.first.me ≡ (adds (l.seats + 1 - l.counter) no_counts, []))
    × (vec_len l.all + 1 ≡ l.counter)
    × (l.seats ≤ vec_capacity l.all)
    × All (λ s. s.tally ≡ l.table.shared.table_id) l.all.items
    × All (λ s. s.counts ≡ no_counts) l.all.items

use Rattle.std.proofs.Common.{◌≡◌, ◌+◌, All, vec_len, length}
use Rattle.geo_tally.specs.Counts.{together, all_together}
use Rattle.geo_tally.proofs.parts.gather.Given as goal

abbrev pub invariant-loop-one : goal.invariant-loop-one
invariant-loop-one l =
    (l.seat.table_id ≡ l.table.shared.table_id)
    × (l.seat.me.0.parts + length l.one-iterator.rest.items ≡ vec_len l.fn.seats)
    × (together l.seat.me.0.counts (all_together (λ s. s.counts) l.one-iterator.rest.items) ≡ all_together (λ s. s.counts) l.fn.seats.items)
    × All (λ s. s.tally ≡ l.table.shared.table_id) l.one-iterator.rest.items

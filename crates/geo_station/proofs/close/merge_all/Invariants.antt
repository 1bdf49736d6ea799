use Rattle.std.proofs.Common.{◌≡◌, ◌+◌, ◌++◌, length, sum_by, vec_len}
use Rattle.std.specs.List.{All}
use Rattle.std.specs.Vec.Iter.{into_iter_items, into_iter_len}
use Rattle.geo_journal.specs.Marks.{Agree}
use Rattle.geo_station.specs.Seats.{Seated}
use Rattle.geo_station.proofs.close.merge_all.Given as goal

abbrev pub invariant-loop-seat : goal.invariant-loop-seat
invariant-loop-seat g l = record {
  parts : l.all.parts + length l.seat-iterator.rest.items ≡ l.fn.all.parts + vec_len l.fn.seats;
  amount : l.all.amount + sum_by (λ (s : Seated). s.steps) l.seat-iterator.rest.items ≡ l.fn.all.amount + sum_by (λ (s : Seated). s.steps) l.fn.seats.items;
  same : l.journal ≡ l.fn.journal;
  each : All (λ (s : Seated). Agree l.fn.journal s.mark) l.yielded;
  rest : l.yielded ++ into_iter_items l.seat-iterator ≡ into_iter_items l.initial.seat-iterator;
  left : into_iter_len l.seat-iterator ≡ length (into_iter_items l.seat-iterator);
}

use Rattle.std.proofs.Common.{◌≡◌, ◌++◌, true, length}
use Rattle.std.specs.Vec.Iter.{into_iter_items, into_iter_len}
use Rattle.geo_cluster.specs.Standing.{AnswersFor}
use Rattle.geo_cluster.proofs.script.cluster.Cluster.answer_all.Given as goal

abbrev pub invariant-loop-item : goal.invariant-loop-item
invariant-loop-item l = record {
  rest : l.yielded ++ into_iter_items l.item-iterator ≡ into_iter_items l.initial.item-iterator;
  left : into_iter_len l.item-iterator ≡ length (into_iter_items l.item-iterator);
  so_far : AnswersFor l.fn.self l.site l.yielded l.fn.answer.items true l.answer.items l.self;
}

use Rattle.std.proofs.Common.{◌≡◌, ◌++◌, false, List, length}
use Rattle.std.specs.Vec.Iter.{into_iter_items, into_iter_len}
use Rattle.geo_grammar.specs.Quitting.{has_quit}
use Rattle.geo_dialogue.specs.Exchanges.{Exchange, items_in, Runs}
use Rattle.geo_dialogue.specs.Batches.{Adds}
use Rattle.geo_dialogue.proofs.answers.Answers.answer_items.Given as goal

abbrev pub invariant-loop-item : goal.invariant-loop-item
invariant-loop-item g l = record {
  done : List Exchange;
  rest : l.yielded ++ into_iter_items l.item-iterator ≡ into_iter_items l.initial.item-iterator;
  left : into_iter_len l.item-iterator ≡ length (into_iter_items l.item-iterator);
  came : items_in done ≡ l.yielded;
  goes_on : has_quit l.yielded ≡ false;
  run : Runs g.B.Backend.answers l.fn.backend done l.backend;
  adds : Adds l.fn.self l.self done;
}

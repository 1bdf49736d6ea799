use Rattle.std.proofs.Common.{◌≡◌, ◌++◌, length}
use Rattle.geo_grammar.specs.Places.{IsPlace, items_from, place_after}
use Rattle.geo_grammar.specs.States.{place_of}
use Rattle.geo_grammar.proofs.step.run_steps.Given as goal

abbrev pub invariant-loop-rest : goal.invariant-loop-rest
invariant-loop-rest l = record {
  place : IsPlace (place_of l.state);
  items : l.out.items ++ items_from (place_of l.state) l.rest ≡ l.fn.out.items ++ items_from (place_of l.fn.state) l.piece;
  next : place_after (place_of l.state) l.rest ≡ place_after (place_of l.fn.state) l.piece;
}

abbrev pub decreases-loop-rest : goal.decreases-loop-rest
decreases-loop-rest l = length l.rest

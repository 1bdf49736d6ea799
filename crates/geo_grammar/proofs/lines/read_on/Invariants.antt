use Rattle.std.proofs.Common.{◌≡◌, ◌++◌, ◌≤◌, length}
use Rattle.geo_grammar.specs.Places.{start_place, items_from, place_after, line_transition}
use Rattle.geo_grammar.specs.States.{place_of}
use Rattle.geo_grammar.proofs.lines.read_on.Given as goal

abbrev pub invariant-each : goal.invariant-each
invariant-each l = record {
  start : place_of l.state ≡ start_place;
  items : l.out.items ++ ((line_transition l.line).gives ++ items_from (line_transition l.line).next l.rest)
      ≡ l.fn.out.items ++ ((line_transition l.fn.line).gives ++ items_from (line_transition l.fn.line).next l.piece);
  next : place_after (line_transition l.line).next l.rest ≡ place_after (line_transition l.fn.line).next l.piece;
  bound : length l.rest ≤ length l.piece;
}

abbrev pub decreases-each : goal.decreases-each
decreases-each l = length l.rest

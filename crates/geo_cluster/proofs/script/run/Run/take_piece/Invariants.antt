use Rattle.std.proofs.Common.{◌≡◌, ◌+◌, ◌≤◌, ◌++◌, List, ℕ, length, vec_len, vec_capacity}
use Rattle.geo_cluster.specs.Lines.{ended_in, left_in}
use Rattle.geo_cluster.specs.Runs.{Advances}
use Rattle.geo_cluster.proofs.script.run.Run.take_piece.Given as goal

abbrev pub invariant-loop-front : goal.invariant-loop-front
invariant-loop-front g l = record {
  done : List (List ℕ);
  ended : ended_in l.fn.self.unfinished.items l.piece ≡ done ++ ended_in l.self.unfinished.items l.rest;
  left : left_in l.fn.self.unfinished.items l.piece ≡ left_in l.self.unfinished.items l.rest;
  advances : Advances l.fn.self l.self done (g.W.Write.contents l.fn.writer.inner) (g.W.Write.contents l.writer.inner);
  room : vec_len l.self.unfinished + length l.rest ≤ vec_capacity l.self.unfinished;
  wide : vec_capacity l.fn.self.unfinished ≤ vec_capacity l.self.unfinished;
  few : l.self.lines + length l.rest ≤ l.fn.self.lines + length l.piece;
}

abbrev pub decreases-loop-front : goal.decreases-loop-front
decreases-loop-front g l = length l.rest

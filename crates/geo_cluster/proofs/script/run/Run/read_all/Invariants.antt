use Rattle.std.proofs.Common.{◌≡◌, ◌+◌, ◌*◌, ◌≤◌, false, List, ℕ, [], vec_len, vec_capacity, length}
use Rattle.std.specs.Io.KnownBytes.{Consumes}
use Rattle.geo_cluster.specs.Lines.{ended_in, left_in}
use Rattle.geo_cluster.specs.Runs.{Advances, HasRoom}
use Rattle.geo_cluster.proofs.script.run.Run.read_all.Given as goal

abbrev pub invariant-loop-read : goal.invariant-loop-read
invariant-loop-read g l = record {
  input : List ℕ;
  read : Consumes (g.R.Read.remaining l.fn.reader.inner) (g.R.Read.remaining l.reader.inner) input;
  left : l.self.unfinished.items ≡ left_in [] input;
  advances : Advances l.fn.self l.self (ended_in [] input) (g.W.Write.contents l.fn.writer.inner) (g.W.Write.contents l.writer.inner);
  few : l.self.lines ≤ l._read * 16384;
  long : l._read ≤ length input;
  room : vec_len l.buffer ≡ 16384;
  spare : vec_len l.self.unfinished + 16384 ≤ vec_capacity l.self.unfinished;
  wide : HasRoom l.self;
  written : l.self.out.items ≡ [];
  reads : l.fn.reader.failed ≡ false → l.reader.failed ≡ false;
}

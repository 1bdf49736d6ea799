use Rattle.std.proofs.Common.{[], ◌≡◌, length, take, ◌-◌, ◌≤◌, IsTrue}
use Rattle.std.specs.Io.KnownBytes.{Appends}
use Rattle.geo_cluster.proofs.script.run.write_all.Given as goal

abbrev pub invariant-loop-at : goal.invariant-loop-at
invariant-loop-at g l = record {
  within : l.at ≤ length l.bytes;
  stays : IsTrue l.fn.writer.failed → IsTrue l.writer.failed;
  untouched : l.bytes ≡ [] → l.writer ≡ l.fn.writer;
  written : Appends (g.W.Write.contents l.fn.writer.inner) (g.W.Write.contents l.writer.inner) (take l.at l.bytes);
}

abbrev pub decreases-loop-at : goal.decreases-loop-at
decreases-loop-at g l = length l.bytes - l.at

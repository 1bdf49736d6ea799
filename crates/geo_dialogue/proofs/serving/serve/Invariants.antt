use Rattle.std.proofs.Common.{◌≡◌, ◌<◌, ◌≤◌, false, true, [], vec_len, length}
use Rattle.std.specs.Io.KnownBytes.{Consumes}
use Rattle.geo_grammar.specs.Protocol.{items_of}
use Rattle.geo_dialogue.specs.Closings.{StaysOpen}
use Rattle.geo_dialogue.specs.Connections.{IsSettled}
use Rattle.geo_dialogue.proofs.Pieces.{Progress}
use Rattle.geo_dialogue.proofs.serving.serve.Given as goal

abbrev pub invariant-loop-read : goal.invariant-loop-read
invariant-loop-read g l = record {
  read : Consumes (g.I.Read.remaining l.fn.reader.inner) (g.I.Read.remaining l.reader.inner) l.session.read;
  so_far : Progress g.B.Backend.answers l.session.read l.fn.backend l.backend (g.O.Write.contents l.fn.writer.inner) (g.O.Write.contents l.writer.inner);
  stays : StaysOpen (items_of l.session.read);
  goes_on : l.session.goes_on ≡ true;
  paid : l.session.owed ≡ [];
  settled : IsSettled l.session;
  long : l._read ≤ length l.session.read;
  some : 0 < vec_len l.buffer;
  most : vec_len l.buffer ≤ 262144;
  reads : l.fn.reader.failed ≡ false → l.reader.failed ≡ false;
  writes : l.fn.writer.failed ≡ false → l.writer.failed ≡ false;
}

use Rattle.std.proofs.Common.{◌≡◌, ◌++◌, length}
use Rattle.std.specs.Vec.Iter.{into_iter_items, into_iter_len}
use Rattle.geo_delta.specs.Heads.{keys_under}
use Rattle.geo_delta.proofs.News.{news}
use Rattle.geo_delta.proofs.buffer.looked_up.Given as goal

abbrev pub invariant-loop-headed : goal.invariant-loop-headed
invariant-loop-headed g l = record {
  all : l.all.items ≡ news l.base (g.T.Lookup.record_of l.versions) (keys_under l.yielded);
  rest : l.yielded ++ into_iter_items l.headed-iterator ≡ into_iter_items l.initial.headed-iterator;
  left : into_iter_len l.headed-iterator ≡ length (into_iter_items l.headed-iterator);
}

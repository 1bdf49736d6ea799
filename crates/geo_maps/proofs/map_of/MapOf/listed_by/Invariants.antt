use Rattle.std.proofs.Common.{◌≡◌, ◌++◌, length}
use Rattle.std.specs.Vec.Iter.{into_iter_items, into_iter_len}
use Rattle.geo_maps.proofs.Listing.{shown_of}
use Rattle.geo_maps.proofs.map_of.MapOf.listed_by.Given as goal

abbrev pub invariant-loop-key : goal.invariant-loop-key
invariant-loop-key g l = record {
  all : l.all.items ≡ shown_of (λ v. g.S.Show.shown l.show v.now) l.yielded;
  rest : l.yielded ++ into_iter_items l.key-iterator ≡ into_iter_items l.initial.key-iterator;
  left : into_iter_len l.key-iterator ≡ length (into_iter_items l.key-iterator);
}

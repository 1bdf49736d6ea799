use Rattle.std.proofs.Common.{◌≡◌, take}
use Rattle.std.specs.List.{flat_map}
use Rattle.geo_grammar.specs.Protocol.{items_of}
use Rattle.geo_grammar.proofs.laws.read_all.Given as goal

abbrev pub invariant-loop-piece : goal.invariant-loop-piece
invariant-loop-piece l = record {
  fed : l.reader ≡ flat_map (λ piece. piece.items) (take l.piece-index l.pieces);
  items : items_of l.reader ≡ l.out.items;
}

use Rattle.std.proofs.Common.{[], sym, ap, ◌∙◌}
use Rattle.geo_grammar.specs.Protocol.{items_of}
use Rattle.geo_grammar.proofs.Whole.{items_is}
use Rattle.geo_grammar.proofs.laws.read_all.Goals as goal

pub loop-piece-init : goal.loop-piece-init
loop-piece-init c = record {
  fed = c.new-reader.ensures;
  items = ap items_of c.new-reader.ensures ∙ items_is [] ∙ sym c.new-out.ensures.items;
}

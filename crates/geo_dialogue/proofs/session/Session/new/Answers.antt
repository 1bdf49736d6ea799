use Rattle.std.proofs.Common.{List, ℕ, sym, subst, arith}
use Rattle.geo_grammar.specs.Protocol.{items_of}
use Rattle.geo_dialogue.specs.Closings.{StaysOpen}
use Rattle.geo_dialogue.proofs.Pieces.{none_stays}
use Rattle.geo_dialogue.proofs.session.Session.new.Goals as goal

pub invariant_of-result : goal.invariant_of-result
invariant_of-result c = record {
  within = omega arith;
  stays = λ _. subst (λ (text : List ℕ). StaysOpen (items_of text)) (sym c.new.ensures) none_stays;
}

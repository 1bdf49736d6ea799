use Rattle.std.proofs.Common.{ap, ◌∙◌, ◌++◌}
use Rattle.std.specs.List.{list_any}
use Rattle.geo_grammar.specs.Faults.{says_too_long}
use Rattle.geo_grammar.specs.Protocol.{items_of}
use Rattle.geo_grammar.specs.States.{place_of}
use Rattle.geo_grammar.proofs.Fed.{is_ended_text, fed_items, fed_place}
use Rattle.geo_grammar.proofs.reader.Reader.feed.Goals as goal

pub returns-in_err-items-clause-silent : goal.returns-in_err-items-clause-silent
returns-in_err-items-clause-silent c = λ h.
    let inside = c.self.inside in
    let refused = c.in_err-items.ensures.silent (is_ended_text inside.fed.text (place_of inside.state) c.self.invariant.behind ∙ ap (λ t. list_any says_too_long (items_of t)) c.self.view_is ∙ h) in
    cc

pub invariant_of-self-2 : goal.invariant_of-self-2
invariant_of-self-2 c = record {
  place = c.in_ok-items.ensures.place;
  behind = rw c.add.ensures (fed_place c.self.inside.fed.text c.args.piece.now (place_of c.self.inside.state) _ c.self.invariant.behind c.in_ok-items.ensures.next);
}

pub returns-clause-items : goal.returns-clause-items
returns-clause-items c =
    ap items_of c.add.ensures ∙ fed_items c.self.inside.fed.text c.args.piece.now (place_of c.self.inside.state) c.in_ok-items.items.items c.self.invariant.behind c.in_ok-items.ensures.items ∙ ap (λ t. items_of t ++ c.in_ok-items.items.items) c.self.view_is

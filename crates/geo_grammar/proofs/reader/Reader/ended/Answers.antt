use Rattle.std.proofs.Common.{sym, ap, ◌∙◌}
use Rattle.std.specs.List.{list_any}
use Rattle.geo_grammar.specs.Faults.{says_too_long}
use Rattle.geo_grammar.specs.Places.{is_ended}
use Rattle.geo_grammar.specs.Protocol.{items_of}
use Rattle.geo_grammar.specs.States.{place_of}
use Rattle.geo_grammar.proofs.Fed.{is_ended_text, goes_on_reading}
use Rattle.geo_grammar.proofs.reader.Reader.ended.Goals as goal

pub returns-in-Ended : goal.returns-in-Ended
returns-in-Ended c =
    let inside = c.self.inside in
    ap (λ s. is_ended (place_of s)) (sym c.in-Ended.is) ∙ is_ended_text inside.fed.text (place_of inside.state) c.self.invariant.behind ∙ ap (λ t. list_any says_too_long (items_of t)) c.self.view_is

pub returns-in_default : goal.returns-in_default
returns-in_default c =
    let inside = c.self.inside in
    goes_on_reading inside.state c.in_default.not-Ended ∙ is_ended_text inside.fed.text (place_of inside.state) c.self.invariant.behind ∙ ap (λ t. list_any says_too_long (items_of t)) c.self.view_is

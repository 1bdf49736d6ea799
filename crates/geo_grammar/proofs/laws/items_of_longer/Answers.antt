use Rattle.geo_grammar.specs.Places.{start_place, items_from, place_after}
use Rattle.geo_grammar.proofs.Fed.{items_of-append}
use Rattle.geo_grammar.proofs.laws.items_of_longer.Goals as goal

pub returns : goal.returns
returns c = λ text more. (items_from (place_after start_place text) more, items_of-append text more)

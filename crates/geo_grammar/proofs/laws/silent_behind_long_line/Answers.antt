use Rattle.geo_grammar.proofs.Fed.{silent}
use Rattle.geo_grammar.proofs.laws.silent_behind_long_line.Goals as goal

pub returns : goal.returns
returns c = silent

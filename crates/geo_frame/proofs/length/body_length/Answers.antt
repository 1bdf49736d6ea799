use Rattle.std.proofs.Common.{length, ap, sym, ◌∙◌}
use Rattle.geo_frame.specs.Spelling.{body_bytes}
use Rattle.geo_frame.proofs.Lengths.{body_none}
use Rattle.geo_frame.proofs.length.body_length.Goals as goal

pub returns-in-None-clause-exact : goal.returns-in-None-clause-exact
returns-in-None-clause-exact c = sym body_none ∙ ap (λ r. length (body_bytes r)) (c.in-None.ensures ∙ c.get.ensures)

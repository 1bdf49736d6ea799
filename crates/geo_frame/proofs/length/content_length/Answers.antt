use Rattle.std.proofs.Common.{arith, length, ap, sym, ◌∙◌, Some}
use Rattle.geo_frame.specs.Spelling.{body_bytes}
use Rattle.geo_frame.proofs.Lengths.{body_gone, body_value}
use Rattle.geo_frame.proofs.length.content_length.Goals as goal

pub returns-in-Gone-clause-exact : goal.returns-in-Gone-clause-exact
returns-in-Gone-clause-exact c = λ s. sym (body_gone s) ∙ ap (λ body. length (body_bytes (Some (s, body)))) (sym c.in-Gone.is)

pub returns-in-Value-clause-exact : goal.returns-in-Value-clause-exact
returns-in-Value-clause-exact c = λ s. omega (arith, ap length c.as_slice.ensures, ap length c.bytes.ensures, body_value s c.in-Value.digest c.in-Value.flags c.in-Value.length, ap (λ body. length (body_bytes (Some (s, body)))) c.in-Value.is)

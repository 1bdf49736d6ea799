use Rattle.std.proofs.Common.{◌∙◌, ap, sym, length}
use Rattle.geo_frame.specs.Spelling.{expiry_bytes}
use Rattle.geo_frame.proofs.Lengths.{expiry_none, expiry_some}
use Rattle.geo_frame.proofs.length.expiry_length.Goals as goal

pub returns-in-None-clause-exact : goal.returns-in-None-clause-exact
returns-in-None-clause-exact c = sym expiry_none ∙ ap (λ r. length (expiry_bytes r)) c.in-None.ensures

pub returns-in-Some-clause-exact : goal.returns-in-Some-clause-exact
returns-in-Some-clause-exact c = sym (expiry_some c.in-Some.field-0.now.0 c.in-Some.field-0.now.1) ∙ ap (λ r. length (expiry_bytes r)) c.in-Some.ensures

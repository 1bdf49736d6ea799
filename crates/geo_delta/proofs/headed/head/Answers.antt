use Rattle.std.proofs.Common.{◌∙◌, ap}
use Rattle.std.specs.Int.{w128, from_be_bytes}
use Rattle.geo_delta.proofs.headed.head.Goals as goal

pub returns : goal.returns
returns c = c.from_be_bytes.ensures ∙ ap (from_be_bytes w128) c.first_bytes.ensures

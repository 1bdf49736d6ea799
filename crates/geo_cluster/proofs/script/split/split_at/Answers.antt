use Rattle.std.proofs.Common.{Some, None}
use Rattle.geo_cluster.specs.Splits.{is_byte}
use Rattle.geo_cluster.proofs.Cutting.{first_says, cut_none, cut_some}
use Rattle.geo_cluster.proofs.script.split.split_at.Goals as goal

pub returns-in_default : goal.returns-in_default
returns-in_default c = cut_none c.args.byte c.args.text.now (first_says (is_byte c.args.byte) c.args.text.now None c.in_default.ensures)

pub returns : goal.returns
returns c =
    let says = first_says (is_byte c.args.byte) c.args.text.now (Some c.in-Some.at) c.in-Some.ensures in
    rw (c.split_at.ensures.front, c.split_at-2.ensures.back) (cut_some c.args.byte c.args.text.now c.in-Some.at says.0 says.1)

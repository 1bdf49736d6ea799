use Rattle.std.proofs.Common.{◌∙◌, sym}
use Rattle.geo_frame.proofs.Loops.{last_is}
use Rattle.geo_frame.proofs.record.last_of.Goals as goal

pub returns-in-len1-up : goal.returns-in-len1-up
returns-in-len1-up c = c.bytes.ensures.bytes ∙ sym (last_is c.args.records.now c.index-records-records.result c.in-len1-up.len_at_least)

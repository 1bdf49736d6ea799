use Rattle.geo_delta.proofs.Heads.{written_over}
use Rattle.geo_delta.proofs.headed.first_bytes.Goals as goal

pub returns : goal.returns
returns c = written_over c.min-there.result c.args.bytes.now c.copy_from_slice.new.self c.min-there.ensures c.copy_from_slice.ensures.after

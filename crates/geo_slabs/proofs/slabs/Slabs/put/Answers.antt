use Rattle.geo_slabs.proofs.Kept.{put_others}
use Rattle.geo_slabs.proofs.slabs.Slabs.put.Goals as goal

pub returns-clause-others : goal.returns-clause-others
returns-clause-others c = put_others c.args.self.now c.put_paged.new.self c.args.class c.args.bytes.now c.put_paged.result c.put_paged.ensures

use Rattle.geo_slabs.proofs.Kept.{put_keeps_held}
use Rattle.geo_base_checks.proofs.held.slabs.refills.Goals as goal

pub free-requires : goal.free-requires
free-requires c =
    rw (put_keeps_held c.put.new.slabs c.put-2.new.self 14 c.args.value.now c.put-2.result c.put-2.ensures.put c.in_ok-first.first _ c.in_ok-first.ensures.holds)

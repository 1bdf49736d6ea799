use Rattle.std.proofs.Common.{length, refl, ap, arith}
use Rattle.geo_world.specs.Setups.{limits_of}
use Rattle.geo_plain.proofs.Meeting.{meets_more, meets_none, counts_more}
use Rattle.geo_world.proofs.Worlds.{reap_read}
use Rattle.geo_plain.proofs.known.sites_without.Goals as goal

pub loop-setup-init : goal.loop-setup-init
loop-setup-init c = record { many = ap length c.new-all.ensures.items; meets = meets_none (length c.args.setups.now) (limits_of c.args.setups.now) _ c.new-all.ensures.items }

pub loop-setup-preserved : goal.loop-setup-preserved
loop-setup-preserved c =
    let inv = c.loop-setup.invariant in
    record {
      many = counts_more _ _ _ _ c.in_ok-push.ensures.items inv.many;
      meets = meets_more (length c.args.setups.now) (limits_of c.args.setups.now) _ _ _ c.loop-setup.setup-index inv.many c.in_ok-push.ensures.items c.new.ensures.items c.new-in-loop-setup.ensures.items refl refl (reap_read c.args.setups.now c.loop-setup.setup-index _ c.loop-setup-test.true) c.none.ensures inv.meets;
    }

pub returns : goal.returns
returns c =
    let inv = c.loop-setup.invariant in
    let end = c.loop-setup.auto.setup-index-end in
    let past = c.loop-setup-test.false in
    let many = inv.many in
    (omega (arith, many, end, past), inv.meets)

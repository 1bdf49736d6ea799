use Rattle.std.proofs.Common.{◌<◌, length, arith, sym, ap, ◌∙◌}
use Rattle.geo_stamp.specs.Acks.{each_site, agrees_with}
use Rattle.geo_stamp.proofs.Least.{not_each, each_more}
use Rattle.geo_stamp.proofs.acks.Acks.agrees.Goals as goal

pub loop-before-preserved : goal.loop-before-preserved
loop-before-preserved c = each_more c.loop-before.before (agrees_with c.args.self.now c.args.own c.args.vector.now) (sym c.agrees_with.ensures ∙ c.if-not-agrees_with.false) c.loop-before.invariant

pub returns-then-not-agrees_with : goal.returns-then-not-agrees_with
returns-then-not-agrees_with c =
    let lt : c.loop-before.before < length c.args.vector.now = omega (arith, c.loop-before-test.true, c.sites-before-end.ensures.sites) in
    sym (not_each (length c.args.vector.now) (agrees_with c.args.self.now c.args.own c.args.vector.now) c.loop-before.before lt (sym c.agrees_with.ensures ∙ c.if-not-agrees_with.true))

pub returns : goal.returns
returns c = sym c.loop-before.invariant ∙ ap (λ n. each_site n (agrees_with c.args.self.now c.args.own c.args.vector.now)) (omega (arith, c.loop-before-test.false, c.loop-before.auto.before-end, c.sites-before-end.ensures.sites))

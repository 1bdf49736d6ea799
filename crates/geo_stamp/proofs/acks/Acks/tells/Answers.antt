use Rattle.std.proofs.Common.{◌<◌, length, arith, sym, ap, ◌∙◌}
use Rattle.geo_stamp.specs.Acks.{each_site, tells_of}
use Rattle.geo_stamp.proofs.Least.{not_each, each_more}
use Rattle.geo_stamp.proofs.acks.Acks.tells.Goals as goal

pub loop-before-preserved : goal.loop-before-preserved
loop-before-preserved c = each_more c.loop-before.before (tells_of c.args.self.now c.args.site c.args.vector.now) (sym c.tells_of.ensures ∙ c.if-not-tells_of.false) c.loop-before.invariant

pub returns-then-not-tells_of : goal.returns-then-not-tells_of
returns-then-not-tells_of c =
    let lt : c.loop-before.before < length c.args.vector.now = omega (arith, c.loop-before-test.true, c.sites-before-end.ensures.sites) in
    sym (not_each (length c.args.vector.now) (tells_of c.args.self.now c.args.site c.args.vector.now) c.loop-before.before lt (sym c.tells_of.ensures ∙ c.if-not-tells_of.true))

pub returns : goal.returns
returns c = sym c.loop-before.invariant ∙ ap (λ n. each_site n (tells_of c.args.self.now c.args.site c.args.vector.now)) (omega (arith, c.loop-before-test.false, c.loop-before.auto.before-end, c.sites-before-end.ensures.sites))

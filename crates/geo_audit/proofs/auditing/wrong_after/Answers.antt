use Rattle.std.proofs.Common.{◌+◌, subst, sym, inr}
use Rattle.geo_audit.specs.Verdicts.{Fails}
use Rattle.geo_audit.proofs.Judging.{there_of}
use Rattle.geo_audit.proofs.auditing.wrong_after.Goals as goal

pub returns : goal.returns
returns c =
    let there = there_of c.args.histories.now c.args.at c.index-histories-at.result c.requires.there c.index-histories-at.is in
    (c.requires.fresh, inr (subst (λ site. Fails c.args.histories.now site (c.args.count + 1)) (sym (c.requires.order c.args.at c.index-histories-at.result there)) c.requires.fails))

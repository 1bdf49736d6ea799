use Rattle.std.proofs.Common.{◌∙◌, sym, ap}
use Rattle.geo_delta.specs.Heads.{head_of}
use Rattle.geo_delta.proofs.Heads.{begun, begun_below, begun_above, is_less, is_not_less}
use Rattle.geo_delta.proofs.headed.head_behind.Goals as goal

pub returns-in-Some-clause-head : goal.returns-in-Some-clause-head
returns-in-Some-clause-head c = c.head-in-Some.ensures ∙ ap head_of c.in-Some.ensures.cases.1 ∙ sym (begun c.args.begin.now c.args.bytes.now c.in-Some.ensures.cases.0)

pub returns-in-None-clause-head : goal.returns-in-None-clause-head
returns-in-None-clause-head c =
    sym (begun_below c.args.begin.now c.args.bytes.now c.in-None.ensures.cases (sym c.cmp.ensures ∙ is_less c.cmp.result (sym c.if-is_lt.ensures)))

pub returns-in-None-2-clause-head : goal.returns-in-None-2-clause-head
returns-in-None-2-clause-head c =
    sym (begun_above c.args.begin.now c.args.bytes.now c.in-None.ensures.cases (λ less. is_not_less c.cmp.result (sym c.if-is_lt.ensures) (c.cmp.ensures ∙ less)))

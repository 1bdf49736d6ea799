use Rattle.std.proofs.Common.{◌∙◌, ◌-◌, ◌+◌, arith, rules}
use Rattle.geo_records.proofs.ByEight.{SameUpTo, fewer, by_lengths, apart, alike}
use Rattle.geo_records.proofs.order.order.Goals as goal

pub returns-then-x-y : goal.returns-then-x-y
returns-then-x-y c =
    c.cmp-then-x-y.ensures
    ∙ apart c.args.a.now c.args.b.now (search rules) (search rules) c.loop-from.from _ _ (omega arith) (omega arith) c.word-x.ensures c.word-y.ensures c.loop-from.invariant c.if-x-y.true

pub loop-from-preserved : goal.loop-from-preserved
loop-from-preserved c =
    alike c.args.a.now c.args.b.now (search rules) (search rules) c.loop-from.from _ _ (omega arith) (omega arith) c.word-x.ensures c.word-y.ensures c.loop-from.invariant c.if-x-y.false

pub returns-then-x-y-2 : goal.returns-then-x-y-2
returns-then-x-y-2 c =
    let last = c.min-both.result - 8 in
    let seen : SameUpTo c.args.a.now c.args.b.now last = fewer c.args.a.now c.args.b.now last c.loop-from.from (omega arith) c.loop-from.invariant in
    c.cmp-then-x-y-2.ensures
    ∙ apart c.args.a.now c.args.b.now (search rules) (search rules) last _ _ (omega arith) (omega arith) c.word-x-2.ensures c.word-y-2.ensures seen c.if-x-y-2.true

pub returns : goal.returns
returns c =
    let both = c.min-both.result in
    let last = both - 8 in
    let seen : SameUpTo c.args.a.now c.args.b.now last = fewer c.args.a.now c.args.b.now last c.loop-from.from (omega arith) c.loop-from.invariant in
    let all : SameUpTo c.args.a.now c.args.b.now (last + 8) = alike c.args.a.now c.args.b.now (search rules) (search rules) last _ _ (omega arith) (omega arith) c.word-x-2.ensures c.word-y-2.ensures seen c.if-x-y-2.false in
    c.cmp-2.ensures ∙ by_lengths both c.args.a.now c.args.b.now c.min-both.ensures (fewer c.args.a.now c.args.b.now both (last + 8) (omega arith) all)

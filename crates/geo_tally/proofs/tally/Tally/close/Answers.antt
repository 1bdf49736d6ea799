use Rattle.std.proofs.Common.{◌≤◌, arith, ap, ◌∙◌}
use Rattle.geo_tally.specs.Counts.{in_order}
use Rattle.geo_tally.proofs.Counting.{in_order-each}
use Rattle.geo_tally.proofs.Steps.{last_words}
use Rattle.geo_tally.proofs.tally.Tally.close.Goals as goal

pub returns-clause-sums : goal.returns-clause-sums
returns-clause-sums c =
    let all : c.self.inside.table.shared.key ≤ c.gather-all.result.me.0.parts = omega (arith, c.self.invariant.told, c.gather-all.ensures.parts, c.if-len-self.false, c.len.ensures) in
    let words = last_words _ _ _ _ _ c.close_with-closed.ensures.values.2 all in
    in_order-each _ _ _ _ _ _ _ (words ∙ ap in_order c.gather-all.ensures.counts) c.word.ensures c.word-2.ensures c.word-3.ensures c.word-4.ensures c.word-5.ensures

use Rattle.std.proofs.Common.{rules, ◌≡◌, ◌∷◌, arith, ap, sym, ◌∙◌, length}
use Rattle.geo_tally.specs.Counts.{together, all_together}
use Rattle.geo_tally.proofs.Counting.{together-assoc, all_first, all_rest}
use Rattle.geo_tally.proofs.parts.gather.Goals as goal

pub loop-one-init : goal.loop-one-init
loop-one-init c =
    let rest = c.into_iter-one-iterator.result.rest.items in
    let goes : c.args.seats.items ≡ c.in-Some.first ∷ rest = search rules in (
      ap (λ s. s.tally) c.first.view_is ∙ all_first (λ s. s.tally ≡ c.args.table.now.shared.table_id) _ _ _ goes c.requires.given,
      omega (arith, c.first.invariant.part, ap (λ l. length l) goes),
      ap (λ s. together s.counts (all_together (λ t. t.counts) rest)) c.first.view_is ∙ sym (ap (λ l. all_together (λ s. s.counts) l) goes),
      all_rest (λ s. s.tally ≡ c.args.table.now.shared.table_id) _ _ _ goes c.requires.given,
    )

pub loop-one-preserved : goal.loop-one-preserved
loop-one-preserved c =
    let kept = c.loop-one.invariant in
    let rest = c.next-in-loop-one.new.self.rest.items in
    let goes : c.loop-one.one-iterator.rest.items ≡ c.in-Some-one.one ∷ rest = search rules in (
      c.put_in.ensures.given ∙ kept.0,
      omega (arith, ap (λ v. v.parts) c.put_in.ensures.together, kept.1, ap (λ l. length l) goes),
      ap (λ v. together v.counts (all_together (λ s. s.counts) rest)) c.put_in.ensures.together
          ∙ together-assoc c.loop-one.seat.me.0.counts c.in-Some-one.one.counts (all_together (λ s. s.counts) rest)
          ∙ sym (ap (λ l. together c.loop-one.seat.me.0.counts (all_together (λ s. s.counts) l)) goes)
          ∙ kept.2,
      all_rest (λ s. s.tally ≡ c.args.table.now.shared.table_id) _ _ _ goes kept.3,
    )
